-- What holds of each alignment that the standard allows holds of those of the pieces of objects, where common symbols
-- are sound.
use Rattle.std.proofs.Common.{◌≡◌, ◌⊎◌, inl, inr, ℕ, ◌<◌, ◌≤◌, ◌^◌, List, [], ◌∷◌, arith, map, refl, subst}
use Rattle.std.specs.Int.{IsPowerOfTwo}
use Rattle.std.specs.Prelude.{All, max}
use Rattle.std.proofs.lemmas.Nat.{pow_pos}
use Rattle.std.proofs.lemmas.List.Elements.{All-append, All-contains, All-head, All-tail}
use Rattle.elf_model.specs.Link.Commons.{block_pieces, commons_named, greatest, pieces}
use Rattle.elf_model.specs.Link.Loading.{AreObjects, LoadedObject}
use Rattle.elf_model.specs.Inputs.ObjectFile.{IsAlignment, IsObject, IsPlaced, sections}
use Rattle.elf_model.specs.Link.Pieces.{Piece, kept_sections}
use Rattle.elf_model.specs.Link.Resolution.{AreSoundCommons, IsSoundCommon, SymbolOf, all_symbols, common_symbols, has_name, is_common, is_common_definition, is_global}
use Rattle.std.proofs.lemmas.Bool.{and_parts, cases_lt}
use Rattle.elf_model.proofs.Blocks.{block_pieces-each}
use Rattle.elf_model.proofs.Listed.{All-from_contains, Contains-from_filter, Contains-from_slice_get}
use Rattle.elf_model.proofs.Sectioned.{kept-each}

pub kept_alignments-each :
    (P : ℕ → Type 0) → ((a : ℕ) → IsAlignment a → P (max 1 a)) → (objects : List LoadedObject) → AreObjects objects →
    All (λ p. P p.align) (kept_sections objects)
kept_alignments-each P lawful objects are =
    kept-each (λ (p : Piece). P p.align) objects (λ k o there i h here.
    let object : IsObject o.bytes = All-contains (λ (x : LoadedObject). IsObject x.bytes) objects o are (Contains-from_slice_get objects k o there) in
    lawful h.sh_addralign (All-contains (IsPlaced _) (sections o.bytes) h object.ranges (Contains-from_slice_get (sections o.bytes) i h here)).alignment)

-- lawful alignments; 0 stands for 1
abbrev pub IsLawfulAlignment : ℕ → Type 0
IsLawfulAlignment a = IsPowerOfTwo a × (a ≤ 2 ^ 21)

lawful_alignment : (a : ℕ) → IsAlignment a → IsLawfulAlignment (max 1 a)
lawful_alignment a (inl none) = ((0, omega (arith, none)), omega (arith, none))
lawful_alignment a (inr some) =
    let positive : 1 ≤ a = let e = some.0.1 in let p = pow_pos some.0.0 in omega (arith, e, p) in
    let same : a ≡ max 1 a = omega (arith, positive) in
    subst IsLawfulAlignment same some

pub kept_lawful : (objects : List LoadedObject) → AreObjects objects → All (λ p. IsLawfulAlignment p.align) (kept_sections objects)
kept_lawful objects are = kept_alignments-each IsLawfulAlignment lawful_alignment objects are

-- the greatest of alignments is one
greatest_lawful : {X : Type 0} (f : X → ℕ) (xs : List X) → All (λ x. IsAlignment (f x)) xs → IsAlignment (greatest (map f xs))
greatest_lawful f [] all = inl refl
greatest_lawful {X} f (x ∷ xs) all =
    by (cases_lt (f x) (greatest (map f xs))) (All-head (λ (y : X). IsAlignment (f y)) x xs all)
    (greatest_lawful f xs (All-tail (λ (y : X). IsAlignment (f y)) x xs all))
  where
    by :
        (f x < greatest (map f xs)) ⊎ (greatest (map f xs) ≤ f x) → IsAlignment (f x) → IsAlignment (greatest (map f xs)) →
        IsAlignment (max (f x) (greatest (map f xs)))
    by (inl less) first rest = let e : greatest (map f xs) ≡ max (f x) (greatest (map f xs)) = omega (arith, less) in subst IsAlignment e rest
    by (inr more) first rest = let e : f x ≡ max (f x) (greatest (map f xs)) = omega (arith, more) in subst IsAlignment e first

sound_alignments : (objects : List LoadedObject) → AreSoundCommons objects → (n : List ℕ) → All (λ s. IsAlignment s.entry.st_value) (commons_named objects n)
sound_alignments objects sound n =
    All-from_contains (λ (s : SymbolOf). IsAlignment s.entry.st_value) (commons_named objects n) (λ s c.
    let named = Contains-from_filter (has_name n) (common_symbols objects) s c in
    let common = Contains-from_filter is_common_definition (all_symbols objects) s named.0 in
    let kind = and_parts (is_global s.entry) _ common.1 in
    let is = and_parts (is_common s.entry) _ kind.1 in
    inr ((All-contains IsSoundCommon (all_symbols objects) s sound common.0).align is.0))

pub alignments-each :
    (P : ℕ → Type 0) → ((a : ℕ) → IsAlignment a → P (max 1 a)) → (objects : List LoadedObject) → AreObjects objects →
    AreSoundCommons objects → All (λ p. P p.align) (pieces objects)
alignments-each P lawful objects are sound =
    All-append (λ p. P p.align) (kept_sections objects) (block_pieces objects) (kept_alignments-each P lawful objects are)
    (block_pieces-each objects (λ p. P p.align) (λ k s c.
    lawful (greatest (map (λ (t : SymbolOf). t.entry.st_value) (commons_named objects s.name)))
    (greatest_lawful (λ (t : SymbolOf). t.entry.st_value) (commons_named objects s.name) (sound_alignments objects sound s.name))))
