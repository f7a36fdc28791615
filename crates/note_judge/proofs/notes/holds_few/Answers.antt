use Rattle.std.specs.Prelude.{bit_and}
use Rattle.std.proofs.lemmas.Bool.{eq-eqb, eqb-true}
use Rattle.std.proofs.lemmas.Option.{same_Some}
use Rattle.note_judge.proofs.NoteBytes.{few_low}
use Rattle.note_judge.proofs.notes.holds_few.Goals as goal

pub returns-in-Some : goal.returns-in-Some
returns-in-Some c =
    let v = c.in-Some.bits in
    let allowed = c.args.allowed in (
      λ same. record { bits = v; few = eqb-true (bit_and v allowed) v same; holds = c.in-Some.ensures.held },
      λ h. eq-eqb (bit_and v allowed) v (few_low h.bits allowed v h.few (same_Some v _ (c.in-Some.ensures.only h.bits h.holds))),
    )
