use Rattle.std.proofs.Common.{◌≡◌, ◌↔◌, ◌%◌, ◌^◌, refl, subst}
use Rattle.std.specs.Prelude.{IsTrue}
use Rattle.elf_model.specs.Link.Placement.{symbol_value}
use Rattle.elf_model.specs.Link.Resolution.{is_in_thread_section}
use Rattle.check_link.specs.Views.{symbol_view}
use Rattle.check_relocs.specs.Bindings.{Bound, IsOfUnkept}
use Rattle.check_relocs.proofs.Unnamed.{defined_target}
use Rattle.check_relocs.proofs.bindings.Bindings.target_defined.Goals as goal

pub returns : goal.returns
returns c = λ s t same same_used used.
    let x = symbol_view c.args.symbol.now in
    let d = symbol_view c.args.definition.now in
    let view = c.self.view_is in
    defined_target c.args.self.now s t x d _ same same_used used refl
    (subst (λ (b : Bound). IsTrue c.is_of_unkept.result ↔ IsOfUnkept b.objects x) view (rw c.objects-objects.ensures at c.is_of_unkept.ensures)) refl refl
    (subst (λ (b : Bound). c.is_in_thread_section.result ≡ is_in_thread_section b.objects d) view
    (rw c.objects-objects.ensures at c.is_in_thread_section.ensures))
    (subst (λ (b : Bound). c.symbol_value.result ≡ symbol_value b.places.placed d % 2 ^ 64) view c.symbol_value.ensures) refl
