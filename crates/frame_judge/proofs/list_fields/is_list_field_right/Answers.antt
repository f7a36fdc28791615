use Rattle.std.proofs.Common.{ℕ, Bool, Option, refl, subst, sym, true, ◌∙◌}
use Rattle.std.specs.Prelude.{◌↔◌, IsTrue, None, Some}
use Rattle.std.proofs.lemmas.Bool.{false≢true}
use Rattle.check_load.specs.KeptRelocations.{relocation_at}
use Rattle.check_load.specs.Views.{loaded_view}
use Rattle.frame_judge.specs.Held.{IsListFieldIn}
use Rattle.frame_judge.proofs.list_fields.is_list_field_right.Goals as goal

pub returns-then-not-is_begin : goal.returns-then-not-is_begin
returns-then-not-is_begin c =
    let r = relocation_at c.args.number (loaded_view c.args.loaded.now) c.args.relocation.now in
    subst (λ (o : Option ℕ). IsTrue true ↔ IsListFieldIn c.args.parts.now c.args.taken.now c.args.framed.now r o) (sym c.in-None.is)
    (λ t begins. absurd (false≢true (sym c.if-not-is_begin.true ∙ (c.is_begin.ensures r refl refl refl).1 begins)), λ h. refl)

pub returns-else-not-is_begin : goal.returns-else-not-is_begin
returns-else-not-is_begin c =
    let r = relocation_at c.args.number (loaded_view c.args.loaded.now) c.args.relocation.now in
    subst (λ (o : Option ℕ). IsTrue c.means_nothing.result ↔ IsListFieldIn c.args.parts.now c.args.taken.now c.args.framed.now r o) (sym c.in-None.is)
    (λ t begins. c.means_nothing.ensures.0 t, λ h. c.means_nothing.ensures.1 (h ((c.is_begin.ensures r refl refl refl).0 c.if-not-is_begin.false)))
