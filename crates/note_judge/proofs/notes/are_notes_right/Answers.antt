use Rattle.std.proofs.Common.{ℕ, subst}
use Rattle.std.specs.Prelude.{◌↔◌, IsTrue, bit_or}
use Rattle.check_load.specs.Views.{loaded_views}
use Rattle.note_judge.proofs.Link.{right_by}
use Rattle.note_judge.specs.Notes.{AreNotesBy}
use Rattle.note_judge.proofs.notes.are_notes_right.Goals as goal

pub returns : goal.returns
returns c = λ l of.
    let told =
    subst (λ (bits : ℕ). IsTrue c.are_right_by.result ↔ AreNotesBy c.args.image.now (bit_or bits c.args.features) c.args.notes.now)
    c.common_bits.ensures.exact c.are_right_by.ensures in
    let law = right_by l c.args.image.now (loaded_views c.args.objects.now) c.args.notes.now c.args.features of in (
      λ yes. law.0 (told.0 yes),
      λ right. told.1 (law.1 right),
    )
