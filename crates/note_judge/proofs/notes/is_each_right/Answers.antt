use Rattle.std.proofs.Common.{arith, refl, subst}
use Rattle.std.specs.Prelude.{All}
use Rattle.std.proofs.lemmas.List.{take_all}
use Rattle.std.proofs.lemmas.List.Elements.{All-more}
use Rattle.note_judge.specs.Notes.{IsNoteBy}
use Rattle.note_judge.proofs.notes.is_each_right.Goals as goal

pub loop-n-preserved : goal.loop-n-preserved
loop-n-preserved c =
    All-more (IsNoteBy c.args.image.now c.args.allowed) c.args.notes.now c.loop-n.n-index _ c.loop-n-test.true c.loop-n.invariant
    (c.is_note_right.ensures.0 c.if-not-is_note_right.false)

pub returns : goal.returns
returns c =
    let notes = c.args.notes.now in
    let past = c.loop-n-test.false in (
      λ t. subst (All (IsNoteBy c.args.image.now c.args.allowed)) (take_all c.loop-n.n-index notes (omega (arith, past))) c.loop-n.invariant,
      λ right. refl,
    )
