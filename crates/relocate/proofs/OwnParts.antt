-- The relocations of one object among those of all: what holds of all holds of them, and a byte of the object
-- lies in none of the others' fields.
use Rattle.std.proofs.Common.{◌≡◌, ℕ, zero, suc, ◌+◌, ◌<◌, ◌≤◌, List, [], ◌∷◌, ◌++◌, Option, Some, None, get_or, length, subst, sym, ap, ◌∙◌, arith}
use Rattle.std.specs.Prelude.{All, AllPairs, find}
use Rattle.std.specs.List.{slice_get}
use Rattle.std.specs.Option.{option_or}
use Rattle.std.proofs.lemmas.List.{append_assoc}
use Rattle.std.proofs.lemmas.List.Elements.{All-append, All-nil, All-weaker}
use Rattle.std.proofs.lemmas.List.Folds.{find-append}
use Rattle.std.proofs.lemmas.Option.{none-some, same_Some}
use Rattle.elf_model.specs.Link.Loading.{LoadedObject}
use Rattle.elf_model.specs.Link.Relocation.{Relocation, is_in_field, relocations_from, relocations_of}
use Rattle.elf_model.proofs.Found.{or_none}
use Rattle.elf_model.proofs.Listed.{All-parts}
use Rattle.elf_model.proofs.Pairs.{AllPairs-parts}
use Rattle.elf_model.proofs.RelocationFields.{in_field, later_objects, own_object}
use Rattle.reloc_values.proofs.Searched.{find-nowhere}

-- a part of the relocations, all others being of objects with other numbers than k
pub record IsPart (k : ℕ) (own whole : List Relocation) : Type 0 where
  pub front : List Relocation
  pub back : List Relocation
  pub parts : whole ≡ front ++ (own ++ back)
  pub before : All (λ r. r.object ≡ k → ⊥) front
  pub behind : All (λ r. r.object ≡ k → ⊥) back

pub own_part :
    (k n i : ℕ) (os : List LoadedObject) (o : LoadedObject) → k ≡ n + i → slice_get os i ≡ Some o →
    IsPart k (relocations_from k o) (relocations_of n os)
own_part k n i [] o at there = absurd (none-some o there)
own_part k n zero (x ∷ os) o at there =
    let same : n ≡ k = omega (arith, at) in
    record {
      front = [];
      back = relocations_of (n + 1) os;
      parts =
          ap (λ (m : ℕ). relocations_from m x ++ relocations_of (n + 1) os) same
          ∙ ap (λ (y : LoadedObject). relocations_from k y ++ relocations_of (n + 1) os) (same_Some x o there);
      before = All-nil (λ (r : Relocation). r.object ≡ k → ⊥);
      behind =
          All-weaker (λ (r : Relocation). n + 1 ≤ r.object) (λ (r : Relocation). r.object ≡ k → ⊥) (λ r later e. omega (arith, later, e, same))
          (relocations_of (n + 1) os) (later_objects (n + 1) os);
    }
own_part k n (suc i) (x ∷ os) o at there =
    let p = own_part k (n + 1) i os o (omega (arith, at)) there in
    let here = relocations_from n x in
    record {
      front = here ++ p.front;
      back = p.back;
      parts =
          ap (λ (rs : List Relocation). here ++ rs) p.parts
          ∙ sym (append_assoc here p.front (relocations_from k o ++ p.back));
      before =
          All-append (λ (r : Relocation). r.object ≡ k → ⊥) here p.front
          (All-weaker (λ (r : Relocation). r.object ≡ n) (λ (r : Relocation). r.object ≡ k → ⊥) (λ r is e. omega (arith, is, e, at)) here (own_object n x))
          p.before;
      behind = p.behind;
    }

pub all_own : (P : Relocation → Type 0) (k : ℕ) (own whole : List Relocation) → IsPart k own whole → All P whole → All P own
all_own P k own whole p all = (All-parts P own p.back (All-parts P p.front (own ++ p.back) (subst (All P) p.parts all)).1).0

pub pairs_own :
    (R : Relocation → Relocation → Type 0) (k : ℕ) (own whole : List Relocation) → IsPart k own whole → AllPairs R whole → AllPairs R own
pairs_own R k own whole p pairs = (AllPairs-parts R own p.back (AllPairs-parts R p.front (own ++ p.back) (subst (AllPairs R) p.parts pairs)).1).0

-- the relocations of objects have their numbers
pub numbered : (n : ℕ) (os : List LoadedObject) → All (λ r. r.object < n + length os) (relocations_of n os)
numbered n [] = All-nil (λ (r : Relocation). r.object < n + 0)
numbered n (o ∷ os) =
    All-append (λ (r : Relocation). r.object < n + length (o ∷ os)) (relocations_from n o) (relocations_of (n + 1) os)
    (All-weaker (λ (r : Relocation). r.object ≡ n) (λ (r : Relocation). r.object < n + length (o ∷ os)) (λ r e. omega (arith, e)) (relocations_from n o) (own_object n o))
    (All-weaker (λ (r : Relocation). r.object < n + 1 + length os) (λ (r : Relocation). r.object < n + length (o ∷ os)) (λ r e. omega (arith, e)) (relocations_of (n + 1) os) (numbered (n + 1) os))

-- a byte of an object lies in no field of another one
pub none_of_others : (k s j : ℕ) (rs : List Relocation) → All (λ r. r.object ≡ k → ⊥) rs → find (is_in_field k s j) rs ≡ None
none_of_others k s j rs others =
    find-nowhere (is_in_field k s j) rs (λ i d low e. others i d low (in_field k s j (get_or rs i d) e).0)

pub found_own :
    (k s j : ℕ) (own whole : List Relocation) → IsPart k own whole → find (is_in_field k s j) whole ≡ find (is_in_field k s j) own
found_own k s j own whole p =
    let test = is_in_field k s j in
    ap (find test) p.parts
    ∙ (find-append test p.front (own ++ p.back)
    ∙ (ap (λ (o : Option Relocation). option_or o (find test (own ++ p.back))) (none_of_others k s j p.front p.before)
    ∙ (find-append test own p.back
    ∙ (ap (option_or (find test own)) (none_of_others k s j p.back p.behind) ∙ or_none (find test own)))))
