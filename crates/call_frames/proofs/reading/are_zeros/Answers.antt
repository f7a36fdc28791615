use Rattle.std.proofs.Common.{List, ℕ, drop, subst}
use Rattle.std.specs.Prelude.{◌↔◌, IsTrue}
use Rattle.byteview.specs.Runs.{IsAll}
use Rattle.call_frames.proofs.ReadingLaws.{run_is_zeros}
use Rattle.call_frames.proofs.reading.are_zeros.Goals as goal

pub returns : goal.returns
returns c =
    run_is_zeros c.all_byte.result (drop c.args.at c.args.bytes.now)
    (subst (λ (xs : List ℕ). IsTrue c.all_byte.result ↔ IsAll 0 xs) c.split_at.ensures.back c.all_byte.ensures)
