-- What is asked of a segment and of things, asked of those alone that lie in it.
use Rattle.std.proofs.Common.{◌≡◌, ℕ, ◌+◌, ◌<◌, ◌≤◌, true, List, get_or, sym, subst, arith}
use Rattle.std.specs.Prelude.{All, Any, Contains, IsPermutation, Option}
use Rattle.std.proofs.lemmas.List.Elements.{All-contains, All-weaker, Contains-get_or}
use Rattle.std.proofs.lemmas.List.Sorted.{All-permutation, Contains-permutation, IsPermutation-sym}
use Rattle.elf_model.specs.Image.MemoryImage.{loads}
use Rattle.elf_model.specs.Link.Placement.{Covers}
use Rattle.elf_model.specs.Image.RightLink.{EndsRight, HasNothingElse, IsOfSegment}
use Rattle.elf_model.specs.declared.link_map.SymtabLine.{SymtabLine}
use Rattle.elf_model.specs.declared.records.ProgramHeader.{ProgramHeader}
use Rattle.elf_model.specs.declared.thing.Thing.{Thing}
use Rattle.check_places.specs.Sweeps.{FilledFrom, RegionFilled}
use Rattle.elf_model.proofs.Rests.{Left}

-- what some element of a list is, some element of another is that has those that can be it
any_moved :
    {X : Type 0} (P : X → Type 0) (xs ys : List X) → All (λ x. P x → Contains ys x) xs → Any P xs → Any P ys
any_moved P xs ys has a =
    let x = a.1 in
    let p : P (get_or xs a.0 x) = subst P (sym a.3) a.4 in
    let there : Contains ys x = subst (Contains ys) a.3 (has a.0 x a.2 p) in
    (there.0, x, there.1, there.2, a.4)

-- how a segment ends, by lists that have the same of its things
ends_moved :
    (h : ProgramHeader) (ts us : List Thing) → All (λ t. IsOfSegment h t → Contains us t) ts → All (λ u. IsOfSegment h u → Contains ts u) us →
    EndsRight ts h → EndsRight us h
ends_moved h ts us has there ends = record {
  memory =
      any_moved (λ (t : Thing). IsOfSegment h t × (t.at + t.size ≡ h.p_vaddr + h.p_memsz)) ts us
      (λ k d within p. has k d within p.0) ends.memory;
  file_holds = λ k d within of in_file.
      All-contains (λ (t : Thing). IsOfSegment h t → t.in_file ≡ true → t.at + t.size ≤ h.p_vaddr + h.p_filesz) ts (get_or us k d)
      ends.file_holds (there k d within of) of in_file;
  file_ends = λ some.
      any_moved (λ (t : Thing). IsOfSegment h t × (t.in_file ≡ true) × (t.at + t.size ≡ h.p_vaddr + h.p_filesz)) ts us
      (λ k d within p. has k d within p.0) (ends.file_ends some);
}

-- whether a stretch of addresses is filled outside of things, and of those of another list that has what lies in it
filled_moved :
    (bytes : List ℕ) (start top fill from : ℕ) (ts us : List Thing) →
    All (λ t. (a : ℕ) → from ≤ a → a < top → Covers t a → Contains us t) ts →
    FilledFrom bytes start top fill from ts → FilledFrom bytes start top fill from us
filled_moved bytes start top fill from ts us has filled a low high out =
    filled a low high
    (λ k d within c. All-contains (λ (u : Thing). Covers u a → ⊥) us (get_or ts k d) out (has k d within a low high c) c)

-- the things that begin in a segment tell how it ends
pub ends_of_part :
    (h : ProgramHeader) (ts us : List Thing) → All (Contains ts) us →
    All (λ t. h.p_vaddr ≤ t.at → t.at < h.p_vaddr + h.p_memsz → Contains us t) ts → Left (EndsRight ts h) (EndsRight us h)
ends_of_part h ts us there all =
    let forth : All (λ t. IsOfSegment h t → Contains us t) ts =
    λ k d within of. all k d within (of.inside).0 (let s = of.some_bytes in let e = (of.inside).1 in omega (arith, s, e)) in
    let back : All (λ u. IsOfSegment h u → Contains ts u) us = λ k d within of. there k d within in
    (ends_moved h ts us forth back, ends_moved h us ts back forth)

-- the things that lie partly in a region tell whether it is filled
pub filled_of_part :
    (bytes : List ℕ) (from top fill : ℕ) (ts us : List Thing) → All (Contains ts) us →
    All (λ t. from < t.at + t.size → t.at < top → Contains us t) ts →
    Left (RegionFilled bytes from top fill ts) (RegionFilled bytes from top fill us)
filled_of_part bytes from top fill ts us there all = (
  filled_moved bytes from top fill from ts us
      (λ k d within a low high c. all k d within (let e = c.1 in omega (arith, low, e)) (let b = c.0 in omega (arith, high, b))),
  filled_moved bytes from top fill from us ts (λ k d within a low high c. there k d within),
)

-- an image has nothing else than things in any order
pub nothing_else_moved :
    (image : List ℕ) (symtab : Option SymtabLine) (ts us : List Thing) → IsPermutation ts us →
    HasNothingElse image symtab ts → HasNothingElse image symtab us
nothing_else_moved image symtab ts us moved nothing =
    let back = IsPermutation-sym ts us moved in
    record {
      fill = λ a c m out. nothing.fill a c m (All-permutation (λ (t : Thing). Covers t a → ⊥) us ts back out);
      segments =
          All-weaker (EndsRight ts) (EndsRight us)
          (λ h ends. ends_moved h ts us
          (λ k d within of. Contains-permutation ts us (get_or ts k d) moved (Contains-get_or ts k d within))
          (λ k d within of. Contains-permutation us ts (get_or us k d) back (Contains-get_or us k d within)) ends)
          (loads image) nothing.segments;
      gaps = nothing.gaps;
      end = nothing.end;
    }
