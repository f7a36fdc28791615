-- The names of definitions in a set.
use Rattle.std.proofs.Common.{◌≡◌, ℕ, true, false, cond, ◌||◌, List, [], ◌∷◌, length, refl, ◌∙◌, ap, arith}
use Rattle.std.specs.BTreeSet.{BTreeSet, UpdatesBy}
use Rattle.std.specs.Borrow.{Bor}
use Rattle.std.specs.Cmp.Lexicographic.{slice_cmp}
use Rattle.std.specs.Ordering.{nat_cmp}
use Rattle.std.specs.Str.{bytes_eq}
use Rattle.std.proofs.lemmas.Map.Text.{is_eq-slice_cmp}
use Rattle.elf_model.specs.Link.UsedNames.{is_among}

abbrev pub Name : Type 0
Name = Bor (List ℕ)

-- a name goes into a set: the set has it, and what it had
pub name_added :
    (name : Name) (old new : BTreeSet Name) →
    UpdatesBy (λ x y. slice_cmp nat_cmp x.now y.now) (λ k. slice_cmp nat_cmp name.now k.now) old new true →
    (n : List ℕ) → is_among new n ≡ (bytes_eq name.now n || is_among old n)
name_added name old new updates n =
    let q : Name = record { ref_ptr = name.ref_ptr; now = n } in
    updates.0 q
    ∙ ap (λ b. cond b true (is_among old n)) (is_eq-slice_cmp name.now n)
    ∙ elim (bytes_eq name.now n) as (λ b. cond b true (is_among old n) ≡ (b || is_among old n)) [
      | true ↦ refl
      | false ↦ refl
    ]

pub none_left : {X : Type 0} (xs : List X) → length xs ≡ 0 → xs ≡ []
none_left [] e = refl
none_left (x ∷ xs) e = absurd (omega (arith, e))
