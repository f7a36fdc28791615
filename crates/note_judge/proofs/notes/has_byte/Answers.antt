use Rattle.std.proofs.Common.{◌+◌, ◌∙◌, ap, arith, sym}
use Rattle.std.specs.Prelude.{is_some}
use Rattle.std.proofs.lemmas.Bool.{false≢true}
use Rattle.memory_judge.proofs.NumberBytes.{nothing_high}
use Rattle.note_judge.proofs.notes.has_byte.Goals as goal

pub returns-in-None : goal.returns-in-None
returns-in-None c =
    let none = c.in-None.ensures in
    let nothing = nothing_high c.args.image.now (c.args.at + c.args.offset) c.image-program.ensures.program (omega (arith, none)) in (
      λ t. absurd (false≢true t),
      λ some. absurd (false≢true (sym (ap is_some nothing) ∙ some)),
    )
