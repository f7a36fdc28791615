use Rattle.std.proofs.Common.{[]}
use Rattle.image_write.proofs.StreamLaws.{breaks_on, puts_fault, puts_straight}
use Rattle.image_write.proofs.stream.put.Goals as goal

pub returns-in_err-flush : goal.returns-in_err-flush
returns-in_err-flush g c =
    puts_fault _ _ _ _ c.from_residual.ensures.0 (breaks_on _ _ [] c.args.bytes.now c.in_err-flush.ensures.puts.breaks)

pub returns : goal.returns
returns g c =
    puts_straight _ _ _ _ _ _ [] _ _ c.in_ok-flush.ensures.empty c.in_ok-flush.ensures.puts.grows c.hand.ensures
