use Rattle.std.proofs.Common.{◌≡◌, ◌∙◌, ℕ, Bool, List, ap, subst, sym}
use Rattle.std.specs.Prelude.{◌↔◌, All, IsTrue}
use Rattle.check_link.specs.Views.{piece_views}
use Rattle.elf_model.specs.Image.MapRecord.{PlaceRow}
use Rattle.judge_model.specs.Certificates.{has_place}
use Rattle.input_judge.specs.Joined.{IsJoinedBy}
use Rattle.input_judge.specs.SectionSets.{has_section}
use Rattle.input_judge.proofs.joined.are_notes_joined.Goals as goal

pub returns : goal.returns
returns c = λ l places.
    let same : (o n : ℕ) → has_section c.in_ok-placed.placed o n ≡ has_place l.certificate.places o n =
    λ o n. c.in_ok-placed.ensures o n ∙ ap (λ (rows : List PlaceRow). has_place rows o n) (sym places) in
    subst (λ (f : ℕ → ℕ → Bool). IsTrue c.are_joined_by.result ↔ All (IsJoinedBy f) (piece_views c.args.pieces.now)) (λ j o n. same o n j)
    c.are_joined_by.ensures
