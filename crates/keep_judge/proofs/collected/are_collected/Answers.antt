use Rattle.std.proofs.Common.{◌≡◌, ◌∙◌, ℕ, Bool, List, ap, refl, sym}
use Rattle.std.specs.Prelude.{◌↔◌, IsTrue}
use Rattle.std.specs.List.{list_any}
use Rattle.std.proofs.lemmas.Bool.{false≢true}
use Rattle.std.proofs.lemmas.Result.{IfOk-weaker}
use Rattle.elf_model.specs.Link.Loading.{LoadedObject}
use Rattle.elf_model.specs.Link.Pieces.{kept_sections}
use Rattle.elf_model.specs.declared.link_map.DropLine.{DropLine}
use Rattle.judge_model.specs.Kept.{IsKept}
use Rattle.judge_model.specs.Links.{objects_of}
use Rattle.keep_judge.specs.Collected.{AreObjectsRight, has_name, is_lost_by}
use Rattle.keep_judge.proofs.CollectedLaws.{collected, names_same, names_there, objects_right, objects_same}
use Rattle.keep_judge.proofs.collected.are_collected.Goals as goal

pub returns-then-not-are_names_there : goal.returns-then-not-are_names_there
returns-then-not-are_names_there c = λ l objects roots drops collects bare.
    let lost : List ℕ → Bool = λ name. list_any (is_lost_by l.certificate.drops name) (kept_sections (objects_of l)) in (
      λ e. absurd (false≢true e),
      λ is. absurd
          (false≢true
          (sym c.if-not-are_names_there.true
          ∙ c.are_names_there.ensures.1 (names_same _ _ _ _ _ _ objects drops roots (names_there l bare lost (λ name. refl) is collects)))),
    )

pub returns : goal.returns
returns c = λ l objects roots drops collects bare.
    let lost = has_name c.in_ok-lost.lost in
    let lost_are : (name : List ℕ) → lost name ≡ list_any (is_lost_by l.certificate.drops name) (kept_sections (objects_of l)) = λ name.
    c.in_ok-lost.ensures name
    ∙ (ap (λ (os : List LoadedObject). list_any (is_lost_by c.args.drops.now name) (kept_sections os)) (c.objects.ensures ∙ sym objects)
    ∙ ap (λ (ds : List DropLine). list_any (is_lost_by ds name) (kept_sections (objects_of l))) (sym drops)) in
    let names = names_same _ _ _ _ _ _ (sym objects) (sym drops) (sym roots) (c.are_names_there.ensures.0 c.if-not-are_names_there.false) in
    IfOk-weaker c.are_objects_right.result
    (λ b. IsTrue b ↔ AreObjectsRight c.args.names.now c.args.drops.now lost)
    (λ b. IsTrue b ↔ IsKept l)
    (λ b both. (
      λ t. collected l bare lost lost_are names (objects_same _ _ _ _ lost (sym objects) (sym drops) (both.0 t)) collects,
      λ is. both.1 (objects_same _ _ _ _ lost objects drops (objects_right l bare lost lost_are is collects)),
    )) c.are_objects_right.ensures
