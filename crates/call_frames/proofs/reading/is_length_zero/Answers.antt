use Rattle.std.proofs.Common.{List, ℕ, ap, subst, ◌∙◌}
use Rattle.std.specs.Prelude.{◌↔◌, IsTrue}
use Rattle.byteview.specs.Numbers.{part}
use Rattle.byteview.specs.Runs.{IsAll}
use Rattle.call_frames.proofs.ReadingLaws.{number_is_zero}
use Rattle.call_frames.proofs.reading.is_length_zero.Goals as goal

pub returns : goal.returns
returns c =
    number_is_zero c.all_byte.result (part c.args.bytes.now c.args.at 4)
    (subst (λ (xs : List ℕ). IsTrue c.all_byte.result ↔ IsAll 0 xs) (c.part.ensures.exact ∙ ap (λ (v : List ℕ). part v c.args.at 4) c.new.ensures) c.all_byte.ensures)
