-- A kept relocation that has a place is one of all.
use Rattle.std.proofs.Common.{◌≡◌, ℕ, zero, suc, ◌+◌, ◌++◌, List, [], ◌∷◌, Some, arith, refl}
use Rattle.std.specs.Prelude.{Contains, cond, filter}
use Rattle.std.specs.List.{slice_get}
use Rattle.std.proofs.lemmas.List.Elements.{Contains-append_left, Contains-append_right}
use Rattle.std.proofs.lemmas.Option.{none-some, same_Some}
use Rattle.elf_model.specs.Link.Loading.{LoadedObject}
use Rattle.elf_model.specs.Inputs.ObjectFile.{relas_of, sections}
use Rattle.elf_model.specs.Link.Relocation.{Relocation, is_kept_rela, is_some_kind, relocation_of, relocations, relocations_behind, relocations_from, relocations_in, relocations_of}
use Rattle.elf_model.specs.declared.records.SectionHeader.{SectionHeader}
use Rattle.elf_model.proofs.Listed.{Contains-filter, Contains-from_slice_get, Contains-map}
use Rattle.input_names.specs.RelocationPlaces.{IsRelocationAt}
use Rattle.input_names.specs.declared.relocation_places.RelocationPlace.{RelocationPlace}

-- what one of a list has, by its number, is among what all of them have, one after the other
among :
    {X Y : Type 0} (f : ℕ → X → List Y) (all : ℕ → List X → List Y) → ((k : ℕ) (x : X) (xs : List X) → all k (x ∷ xs) ≡ f k x ++ all (k + 1) xs) →
    (xs : List X) (k i n : ℕ) (x : X) (y : Y) → slice_get xs i ≡ Some x → n ≡ k + i → Contains (f n x) y → Contains (all k xs) y
among f all more [] k i n x y there number listed = absurd (none-some x there)
among f all more (z ∷ zs) k zero n x y there number listed =
    let at : k ≡ n = omega (arith, number) in
    rw (more k z zs) (Contains-append_left (f k z) (all (k + 1) zs) y (rw (same_Some z x there, at) listed))
among f all more (z ∷ zs) k (suc i) n x y there number listed =
    rw (more k z zs) (Contains-append_right (f k z) (all (k + 1) zs) y (among f all more zs (k + 1) i n x y there (omega (arith, number)) listed))

pub listed : (objects : List LoadedObject) (p : RelocationPlace) (r : Relocation) → IsRelocationAt objects p r → Contains (relocations objects) r
listed objects p r at =
    let o = at.o in
    let h = at.h in
    let n = p.object in
    let entries = relas_of o.bytes h in
    let x = relocation_of n o h.sh_info p.entry in
    let in_section =
    Contains-map (relocation_of n o h.sh_info) (filter is_some_kind entries) p.entry
    (Contains-filter is_some_kind entries p.entry (Contains-from_slice_get entries p.number p.entry at.at.entry) at.at.some_kind) in
    let of_section = λ (k : ℕ) (s : SectionHeader). cond (is_kept_rela o k s) (relocations_in n o s) [] in
    let in_object =
    among of_section (relocations_behind n o) (λ k s ss. refl) (sections o.bytes) 0 p.table p.table h x at.at.table (omega arith) (rw at.at.kept in_section) in
    rw at.relocation (among relocations_from relocations_of (λ k x xs. refl) objects 0 n n o x at.at.object (omega arith) in_object)
