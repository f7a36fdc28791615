-- What holds of the piece of each kept section holds of all of them, and what holds of the relocation of each
-- entry of a RELA section holds of all relocations.
use Rattle.std.proofs.Common.{◌≡◌, ℕ, suc, ◌+◌, Bool, true, false, cond, List, [], ◌∷◌, ◌++◌, refl, sym, ◌∙◌, ap, subst, arith}
use Rattle.std.specs.Prelude.{All, Contains, Some, filter}
use Rattle.std.specs.List.{slice_get}
use Rattle.std.proofs.lemmas.List.Elements.{All-append, All-cons, All-nil}
use Rattle.elf_model.specs.Link.Loading.{LoadedObject}
use Rattle.elf_model.specs.Inputs.ObjectFile.{relas_of, sections}
use Rattle.elf_model.specs.Link.Pieces.{Piece, is_kept, kept_sections, piece_of, pieces_from, pieces_of}
use Rattle.elf_model.specs.Link.Relocation.{Relocation, is_kept_rela, is_some_kind, relocation_of, relocations, relocations_behind, relocations_from, relocations_in, relocations_of}
use Rattle.elf_model.specs.declared.records.Rela.{Rela}
use Rattle.elf_model.specs.declared.records.SectionHeader.{SectionHeader}
use Rattle.elf_model.proofs.Listed.{All-from_contains, Contains-from_filter, Contains-from_map}

-- from a number on a list is another one
abbrev IsRest : {X : Type 0} → List X → ℕ → List X → Type 0
IsRest whole k xs = (j : ℕ) → slice_get xs j ≡ slice_get whole (k + j)

rest-head : {X : Type 0} (whole : List X) (k : ℕ) (x : X) (xs : List X) → IsRest whole k (x ∷ xs) → slice_get whole k ≡ Some x
rest-head whole k x xs same =
    let e : k + 0 ≡ k = omega arith in sym (ap (slice_get whole) e) ∙ sym (same 0)

rest-tail : {X : Type 0} (whole : List X) (k : ℕ) (x : X) (xs : List X) → IsRest whole k (x ∷ xs) → IsRest whole (k + 1) xs
rest-tail whole k x xs same j =
    let e : k + suc j ≡ (k + 1) + j = omega arith in same (suc j) ∙ ap (slice_get whole) e

rest-whole : {X : Type 0} (whole : List X) → IsRest whole 0 whole
rest-whole whole j = let e : 0 + j ≡ j = omega arith in ap (slice_get whole) (sym e)

-- the pieces of one object
module _ (P : Piece → Type 0) (k : ℕ) (o : LoadedObject) (each : (i : ℕ) (h : SectionHeader) → slice_get (sections o.bytes) i ≡ Some h → P (piece_of k o.bytes i h)) where
  pieces_from-each : (hs : List SectionHeader) (i : ℕ) → IsRest (sections o.bytes) i hs → All P (pieces_from k o i hs)
  pieces_from-each [] i same = All-nil P
  pieces_from-each (h ∷ hs) i same =
      by (is_kept o i h) (each i h (rest-head (sections o.bytes) i h hs same)) (pieces_from-each hs (i + 1) (rest-tail (sections o.bytes) i h hs same))
    where
      by :
          (b : Bool) → P (piece_of k o.bytes i h) → All P (pieces_from k o (i + 1) hs) →
          All P (cond b (piece_of k o.bytes i h ∷ pieces_from k o (i + 1) hs) (pieces_from k o (i + 1) hs))
      by true first rest = All-cons P (piece_of k o.bytes i h) (pieces_from k o (i + 1) hs) first rest
      by false first rest = rest

-- the pieces of all objects
module _ (P : Piece → Type 0) (objects : List LoadedObject) (each : (k : ℕ) (o : LoadedObject) → slice_get objects k ≡ Some o → (i : ℕ) (h : SectionHeader) → slice_get (sections o.bytes) i ≡ Some h → P (piece_of k o.bytes i h)) where
  pieces_of-each : (os : List LoadedObject) (k : ℕ) → IsRest objects k os → All P (pieces_of k os)
  pieces_of-each [] k same = All-nil P
  pieces_of-each (o ∷ os) k same =
      All-append P (pieces_from k o 0 (sections o.bytes)) (pieces_of (k + 1) os)
      (pieces_from-each P k o (each k o (rest-head objects k o os same)) (sections o.bytes) 0 (rest-whole (sections o.bytes)))
      (pieces_of-each os (k + 1) (rest-tail objects k o os same))

  pub kept-each : All P (kept_sections objects)
  kept-each = pieces_of-each objects 0 (rest-whole objects)

-- an entry of an object's RELA section, which has the number and is kept, that relocates
pub record IsEntryOf (o : LoadedObject) (i : ℕ) (h : SectionHeader) (r : Rela) : Type 0 where
  pub section : slice_get (sections o.bytes) i ≡ Some h
  pub kept : is_kept_rela o i h ≡ true
  pub entry : Contains (relas_of o.bytes h) r
  pub some : is_some_kind r ≡ true

-- the relocations of one object
module _ (P : Relocation → Type 0) (k : ℕ) (o : LoadedObject) (each : (i : ℕ) (h : SectionHeader) (r : Rela) → IsEntryOf o i h r → P (relocation_of k o h.sh_info r)) where
  relocations_in-each :
      (i : ℕ) (h : SectionHeader) → slice_get (sections o.bytes) i ≡ Some h → is_kept_rela o i h ≡ true → All P (relocations_in k o h)
  relocations_in-each i h there kept =
      All-from_contains P (relocations_in k o h) (λ r c.
      let image = Contains-from_map (relocation_of k o h.sh_info) (filter is_some_kind (relas_of o.bytes h)) r c in
      let some = Contains-from_filter is_some_kind (relas_of o.bytes h) image.of image.there in
      subst P image.is (each i h image.of (record { section = there; kept = kept; entry = some.0; some = some.1 })))

  relocations_behind-each : (hs : List SectionHeader) (i : ℕ) → IsRest (sections o.bytes) i hs → All P (relocations_behind k o i hs)
  relocations_behind-each [] i same = All-nil P
  relocations_behind-each (h ∷ hs) i same =
      by (is_kept_rela o i h) (relocations_in-each i h (rest-head (sections o.bytes) i h hs same))
      (relocations_behind-each hs (i + 1) (rest-tail (sections o.bytes) i h hs same))
    where
      by :
          (b : Bool) → (b ≡ true → All P (relocations_in k o h)) → All P (relocations_behind k o (i + 1) hs) →
          All P (cond b (relocations_in k o h) [] ++ relocations_behind k o (i + 1) hs)
      by true first rest = All-append P (relocations_in k o h) (relocations_behind k o (i + 1) hs) (first refl) rest
      by false first rest = rest

-- the relocations of all objects
module _ (P : Relocation → Type 0) (objects : List LoadedObject) (each : (k : ℕ) (o : LoadedObject) → slice_get objects k ≡ Some o → (i : ℕ) (h : SectionHeader) (r : Rela) → IsEntryOf o i h r → P (relocation_of k o h.sh_info r)) where
  relocations_of-each : (os : List LoadedObject) (k : ℕ) → IsRest objects k os → All P (relocations_of k os)
  relocations_of-each [] k same = All-nil P
  relocations_of-each (o ∷ os) k same =
      All-append P (relocations_from k o) (relocations_of (k + 1) os)
      (relocations_behind-each P k o (each k o (rest-head objects k o os same)) (sections o.bytes) 0 (rest-whole (sections o.bytes)))
      (relocations_of-each os (k + 1) (rest-tail objects k o os same))

  pub relocations-each : All P (relocations objects)
  relocations-each = relocations_of-each objects 0 (rest-whole objects)
