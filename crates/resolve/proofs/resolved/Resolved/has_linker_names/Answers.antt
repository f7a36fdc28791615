use Rattle.std.proofs.Common.{◌≡◌, ◌<◌, ℕ, List, false, length, subst}
use Rattle.elf_model.specs.Link.Loading.{LoadedObject}
use Rattle.elf_model.specs.declared.references.SymbolRef.{SymbolRef}
use Rattle.resolve.specs.Left.{HasNoLinkerNames, is_linkers}
use Rattle.resolve.proofs.LeftNames.{none_linkers}
use Rattle.resolve.proofs.resolved.Resolved.has_linker_names.Goals as goal

pub returns : goal.returns
returns c = λ e.
    let names = c.self.inside.loaded.names in
    let outputs = c.self.inside.outputs in
    subst (λ (objects : List LoadedObject). HasNoLinkerNames objects) c.self.view_is
    (none_linkers c.self.inside.loaded c.name_count-named.ensures.named c.objects-objects.ensures.objects c.self.inside.chosen.items
    c.self.inside.places.items outputs c.self.invariant.chosen_are c.self.invariant.placed c.self.invariant.outputs
    (subst (λ (rs : List SymbolRef). (n : ℕ) → n < length names → is_linkers rs c.self.inside.places.items outputs names n ≡ false) c.deref.ensures.value
    (subst (λ (ps : List ℕ). (n : ℕ) → n < length names → is_linkers c.deref.result.now ps outputs names n ≡ false) c.deref-2.ensures.value
    (c.any_linkers.ensures e))))
