use Rattle.std.proofs.Common.{◌≡◌, ◌∙◌, ℕ, Bool, List, ap, subst, sym}
use Rattle.std.specs.Prelude.{◌↔◌, All, IsTrue, false}
use Rattle.std.specs.List.{list_any}
use Rattle.check_link.specs.Views.{piece_views}
use Rattle.elf_model.specs.Image.MapRecord.{PlaceRow}
use Rattle.elf_model.specs.Link.Loading.{LoadedObject}
use Rattle.elf_model.specs.Link.Relocation.{relocations}
use Rattle.judge_model.specs.Certificates.{has_place}
use Rattle.judge_model.specs.Links.{objects_of}
use Rattle.input_judge.specs.Edited.{is_edited_by}
use Rattle.input_judge.specs.SectionSets.{has_section, is_in}
use Rattle.input_judge.proofs.edited.are_unedited.Goals as goal

pub returns : goal.returns
returns c = λ l objects places.
    let placed : (o n : ℕ) → has_section c.in_ok-placed.placed o n ≡ has_place l.certificate.places o n =
    λ o n. c.in_ok-placed.ensures o n ∙ ap (λ (rows : List PlaceRow). has_place rows o n) (sym places) in
    let relocated : (o n : ℕ) → has_section c.in_ok-relocated.relocated o n ≡ list_any (is_in o n) (relocations (objects_of l)) =
    λ o n. c.in_ok-relocated.ensures o n ∙ ap (λ (all : List LoadedObject). list_any (is_in o n) (relocations all)) (sym objects) in
    subst (λ (f : ℕ → ℕ → Bool). IsTrue c.are_unedited_by.result ↔ All (λ p. is_edited_by f (λ o n. list_any (is_in o n) (relocations (objects_of l))) p ≡ false) (piece_views c.args.pieces.now)) (λ j o n. placed o n j)
    (subst (λ (g : ℕ → ℕ → Bool). IsTrue c.are_unedited_by.result ↔ All (λ p. is_edited_by (has_section c.in_ok-placed.placed) g p ≡ false) (piece_views c.args.pieces.now)) (λ j o n. relocated o n j)
    c.are_unedited_by.ensures)
