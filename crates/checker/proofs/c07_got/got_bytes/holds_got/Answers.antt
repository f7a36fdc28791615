use Rattle.std.proofs.Common.{◌∙◌, ℕ, List, ap, subst, sym}
use Rattle.std.specs.Prelude.{◌↔◌, Any, IsTrue}
use Rattle.elf_model.specs.Image.MemoryImage.{Encloses, loads}
use Rattle.elf_model.specs.Image.RightLink.{HoldsGot}
use Rattle.check_relocs.specs.Bindings.{Bound}
use Rattle.checker.proofs.GotSteps.{bytes_length, got_held}
use Rattle.checker.proofs.c07_got.got_bytes.holds_got.Goals as goal

pub holds_bytes-requires-clause-encloses : goal.holds_bytes-requires-clause-encloses
holds_bytes-requires-clause-encloses c =
    let b = c.bindings.result.now in
    let got = c.args.got.now in
    let size = c.is_size_of.ensures.0 c.if-not-is_size_of.false in
    let long =
    bytes_length b.objects b.places got.size c.lines-lines.result.now c.deref.result.now size (c.deref.ensures.value ∙ c.in_ok-wanted.ensures) in
    subst (λ (n : ℕ). Any (λ h. Encloses h got.address n) (loads c.memory-memory.result.now)) (sym long)
    (subst (λ (image : List ℕ). Any (λ h. Encloses h got.address got.size) (loads image)) (sym c.memory-memory.ensures) c.requires.encloses)

pub returns : goal.returns
returns c =
    let b = c.bindings.result.now in
    let got = c.args.got.now in
    let t = c.holds_bytes.result in
    let size = c.is_size_of.ensures.0 c.if-not-is_size_of.false in
    let stand = c.stand_from.ensures.0 c.if-not-stand_from.false in
    let slots = c.lines-lines.ensures ∙ (c.slots.ensures ∙ sym (ap (λ (x : Bound). x.places.slots) c.bindings.ensures)) in
    let held =
    got_held b.objects b.places c.memory-memory.result.now got c.lines-lines.result.now c.deref.result.now t slots size stand
    (c.deref.ensures.value ∙ c.in_ok-wanted.ensures) c.holds_bytes.ensures in
    subst (λ (x : Bound). IsTrue t ↔ HoldsGot x.objects x.places c.args.bound.now.image got) c.bindings.ensures
    (subst (λ (image : List ℕ). IsTrue t ↔ HoldsGot b.objects b.places image got) c.memory-memory.ensures held)
