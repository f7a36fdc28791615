use Rattle.std.proofs.Common.{◌≡◌, ◌∙◌, List, ℕ, ap, map, subst, sym}
use Rattle.std.specs.Prelude.{All}
use Rattle.std.specs.Borrow.{Bor}
use Rattle.std.proofs.lemmas.Bool.{false≢true}
use Rattle.std.proofs.lemmas.List.Elements.{All-cons, All-head, All-map, All-tail}
use Rattle.elf_model.proofs.Listed.{All-unmap}
use Rattle.elf_model.specs.Inputs.Command.{Plan}
use Rattle.keep_judge.specs.Collected.{IsNameThere}
use Rattle.keep_judge.proofs.collected.are_names_there.Goals as goal

pub returns-then-not-is_name_there : goal.returns-then-not-is_name_there
returns-then-not-is_name_there c =
    let P = IsNameThere c.args.names.now c.args.drops.now in
    let plan = c.args.plan.now in
    let entry : c.as_bytes.result.now ≡ plan.entry = c.as_bytes.ensures.value ∙ ap (λ (p : Plan). p.entry) c.plan.view_is in (
      λ e. absurd (false≢true e),
      λ all. absurd
          (false≢true
          (sym c.if-not-is_name_there.true ∙ c.is_name_there.ensures.1 (subst P (sym entry) (All-head P plan.entry plan.undefined all)))),
    )

pub returns : goal.returns
returns c =
    let P = IsNameThere c.args.names.now c.args.drops.now in
    let plan = c.args.plan.now in
    let entry : c.as_bytes.result.now ≡ plan.entry = c.as_bytes.ensures.value ∙ ap (λ (p : Plan). p.entry) c.plan.view_is in
    let text : Bor (List ℕ) → List ℕ = λ s. s.now in
    let items : List (Bor (List ℕ)) = c.plan.inside.undefined.items in
    let names : map text items ≡ plan.undefined = ap (λ (p : Plan). p.undefined) c.plan.view_is in
    let Q : Bor (List ℕ) → Type 0 = λ s. P s.now in (
      λ t. All-cons P plan.entry plan.undefined (subst P entry (c.is_name_there.ensures.0 c.if-not-is_name_there.false))
          (subst (All P) names (All-map P text items (subst (All Q) c.deref.ensures.value (c.are_all_there.ensures.0 t)))),
      λ all. c.are_all_there.ensures.1
          (subst (All Q) (sym c.deref.ensures.value)
          (All-unmap P text items (subst (All P) (sym names) (All-tail P plan.entry plan.undefined all)))),
    )
