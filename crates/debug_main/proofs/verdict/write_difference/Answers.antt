use Rattle.std.proofs.lemmas.Result.{on_ok_weaker}
use Rattle.linker.proofs.Behind.{both_put}
use Rattle.debug_main.proofs.verdict.write_difference.Goals as goal

pub returns : goal.returns
returns g c =
    on_ok_weaker c.writeln.result
    (both_put _ _ _ _ _
    (both_put _ _ _ _ _ (both_put _ _ _ _ _ (both_put _ _ _ _ _ c.in_ok-write_offset.ensures c.in_ok-write_byte.ensures) c.in_ok-write.ensures.bytes) c.in_ok-write_byte-2.ensures))
    c.writeln.ensures.bytes
