use Rattle.std.proofs.Common.{◌∙◌, ℕ, refl, subst}
use Rattle.elf_model.specs.Link.Relocation.{Relocation, width_of}
use Rattle.check_relocs.specs.Bindings.{Bound}
use Rattle.check_relocs.specs.Referrers.{entry_here, objects_here}
use Rattle.input_names.proofs.Overlapping.{not_apart}
use Rattle.input_names.specs.RelocationPlaces.{BeginsIn, IsOverlap}
use Rattle.input_names.specs.declared.relocation_places.RelocationPlace.{RelocationPlace}
use Rattle.explain_check.proofs.relocations.overlap.Goals as goal

pub returns : goal.returns
returns c =
    let h = c.in_ok-here.here in
    let of : RelocationPlace → Relocation = λ p. entry_here h p.section p.entry in
    let p = c.in_ok-first.first in
    let q = c.in_ok-second.second in
    let begins : BeginsIn p (width_of (of p)) q (width_of (of q)) =
    subst (λ (n : ℕ). BeginsIn p n q (width_of (of q))) c.width_of-width.ensures
    (subst (λ (n : ℕ). BeginsIn p c.width_of-width.result q n) c.width_of.ensures (c.if-not-begins_in.ensures refl)) in (
      subst (λ (b : Bound). IsOverlap b.objects p q) (c.in_ok-here.ensures.bindings ∙ c.bindings.ensures) (record {
        two = begins.two;
        r = of p;
        t = of q;
        first = c.in_ok-first.ensures;
        second = c.in_ok-second.ensures;
        wrong = not_apart (objects_here h) p q (of p) (of q) c.in_ok-first.ensures c.in_ok-second.ensures begins;
      }),
      c.requires,
    )
