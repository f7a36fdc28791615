use Rattle.std.proofs.Common.{◌∙◌, ◌+◌, ◌%◌, ◌^◌, ℕ, ap, subst, sym}
use Rattle.std.proofs.lemmas.Bool.{false≢true}
use Rattle.elf_model.specs.Link.Relocation.{kind_of}
use Rattle.check_relocs.specs.Bindings.{Bound, IsTargetOf}
use Rattle.check_relocs.specs.Kinds.{kind_view}
use Rattle.check_relocs.specs.LawfulFields.{IsRelocated}
use Rattle.check_relocs.specs.Referrers.{symbol_here}
use Rattle.explain_check.specs.Places.{IsUnfit, IsWrongRelocation}
use Rattle.explain_check.proofs.WrongRelocations.{told_unfit, told_unlawful}
use Rattle.explain_check.proofs.relocations.wrong_place.Goals as goal

pub returns-in-Some-fault_with : goal.returns-in-Some-fault_with
returns-in-Some-fault_with c =
    let h = c.in_ok-here.here in
    let is = c.in_ok-here.ensures.bindings ∙ c.bindings.ensures in
    let p = c.in_ok-place.place in
    let to = c.relocated-to in
    let t = c.target_of_symbol-target in
    let g = c.link_terms-given in
    let means = subst (λ (j : ℕ). IsTargetOf h.bindings.now (symbol_here h j) t.result) c.symbol.ensures t.ensures in
    let is_to : IsRelocated h to.result = record { size = to.ensures.size; frames = to.ensures.frames; address = to.ensures.address } in
    subst (λ (b : Bound). IsWrongRelocation b.objects p c.in-Some-fault_with.fault) is
    (told_unlawful h p t.result to.result g.result c.in_ok-place.ensures to.ensures.section means is_to (g.ensures.slot to.result.section) g.ensures.got g.ensures.pointer
    (kind_view c.in-Some.kind) (ap kind_of (sym c.kind.ensures) ∙ sym c.in-Some.ensures.kind) c.in-Some-fault_with.fault c.in-Some-fault_with.ensures)

pub returns : goal.returns
returns c =
    let h = c.in_ok-here.here in
    let is = c.in_ok-here.ensures.bindings ∙ c.bindings.ensures in
    let p = c.in_ok-place.place in
    let to = c.relocated-to in
    let t = c.target_of_symbol-target in
    let g = c.link_terms-given in
    let v = c.value_with-value in
    let means = subst (λ (j : ℕ). IsTargetOf h.bindings.now (symbol_here h j) t.result) c.symbol.ensures t.ensures in
    let is_to : IsRelocated h to.result = record { size = to.ensures.size; frames = to.ensures.frames; address = to.ensures.address } in
    subst (λ (b : Bound). IsUnfit b.objects b.places p v.result ((to.result.address + p.entry.r_offset) % 2 ^ 64)) is
    (told_unfit h p t.result to.result g.result c.in_ok-place.ensures to.ensures.section means is_to (g.ensures.slot to.result.section) g.ensures.got g.ensures.pointer
    (kind_view c.in-Some.kind) (ap kind_of (sym c.kind.ensures) ∙ sym c.in-Some.ensures.kind) v.result v.ensures (λ fit. false≢true (sym c.if-fits.false ∙ c.fits.ensures.1 fit)))
