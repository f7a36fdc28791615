-- Members by offset: those before an offset, and the one at it.
use Rattle.std.proofs.Common.{◌≡◌, ◌≢◌, ℕ, zero, suc, ◌<◌, ◌≤◌, ◌⊎◌, inl, inr, Bool, true, false, cond, List, [], ◌∷◌, None, Some, length, get_or, refl, ap, ◌∙◌, sym, subst, arith}
use Rattle.std.specs.Prelude.{All, eqb, find, nat_lt, option_map}
use Rattle.std.specs.Borrow.{Bor}
use Rattle.std.specs.Fn.{Called, ComputesKey, Mut}
use Rattle.std.specs.List.Sorted.{IsNonDecreasingBy, IsPartitionPoint, IsPartitionedBy}
use Rattle.std.proofs.lemmas.Bool.{cases_lt, eq-eqb, ltb-false, ltb-true, ne_eqb}
use Rattle.std.proofs.lemmas.List.{get_or_default}
use Rattle.std.proofs.lemmas.List.Elements.{All-head, All-tail}
use Rattle.std.proofs.lemmas.List.Sorted.{IsPartitionPoint-from_clause, IsPartitionedBy-ltb}
use Rattle.elf_model.specs.Inputs.ArchiveFile.{Member, data_of}
use Rattle.ar_index.specs.Reading.{AreAscending}

pub rising : (ms : List Member) → AreAscending ms → IsNonDecreasingBy (λ m. m.offset) ms
rising ms ascending i j d within below = by (cases_lt i j) where
  by : (i < j) ⊎ (j ≤ i) → (get_or ms i d).offset ≤ (get_or ms j d).offset
  by (inl less) = let step = ascending i j d less below in omega (arith, step)
  by (inr from) = let e : i ≡ j = omega (arith, from, within) in subst (λ (k : ℕ). (get_or ms i d).offset ≤ (get_or ms k d).offset) e (omega arith)

-- what a binary search for the first member that does not begin before an offset finds
module _ {F : Type 0} {g : Mut F (Bor Member × Unit {0}) Bool} {f : F} (ms : List Member) (at i : ℕ) (ascending : AreAscending ms) (clause : (q : Member → Bool) → ComputesKey g q f → IsPartitionedBy q ms → IsPartitionPoint (λ y. q y ≡ true) (λ y. q y ≡ false) ms i) where
  pub parted :
      ((a : Bor Member × Unit {0}) (r : Bool) (f' : F) → Called g f a r f' → (r ≡ nat_lt a.0.now.offset at) × (f' ≡ f)) →
      ((k : ℕ) (d : Member) → k < i → (get_or ms k d).offset < at) × ((k : ℕ) (d : Member) → i ≤ k → k < length ms → at ≤ (get_or ms k d).offset)
  parted own =
      let point = IsPartitionPoint-from_clause (λ (m : Member). nat_lt m.offset at) ms i clause (IsPartitionedBy-ltb (λ (m : Member). m.offset) ms at (rising ms ascending)) own in
      (λ k d below. ltb-true _ _ (point.0 k d (omega arith) below), λ k d from within. ltb-false _ _ (point.1 k d from within))

found_by : (at : ℕ) (m : Member) (ms : List Member) (b : Bool) → eqb m.offset at ≡ b → find (λ x. eqb x.offset at) (m ∷ ms) ≡ cond b (Some m) (find (λ x. eqb x.offset at) ms)
found_by at m ms b e = ap (λ (t : Bool). cond t (Some m) (find (λ x. eqb x.offset at) ms)) e

find_none : (ms : List Member) (at : ℕ) → All (λ m. m.offset ≢ at) ms → find (λ x. eqb x.offset at) ms ≡ None
find_none [] at others = refl
find_none (m ∷ ms) at others =
    found_by at m ms false (ne_eqb m.offset at (All-head (λ (x : Member). x.offset ≢ at) m ms others)) ∙ find_none ms at (All-tail (λ (x : Member). x.offset ≢ at) m ms others)

find_one : (ms : List Member) (at k : ℕ) (m : Member) → k < length ms → m ≡ get_or ms k m → m.offset ≡ at → ((j : ℕ) (d : Member) → j < k → (get_or ms j d).offset < at)
    → find (λ x. eqb x.offset at) ms ≡ Some m
find_one [] at k m within there is before = absurd (omega (arith, within))
find_one (x ∷ ms) at zero m within there is before =
    found_by at x ms true (eq-eqb x.offset at (ap (λ (y : Member). y.offset) (sym there) ∙ is)) ∙ ap Some (sym there)
find_one (x ∷ ms) at (suc k) m within there is before =
    let first = before 0 x (omega arith) in
    found_by at x ms false (ne_eqb x.offset at (λ e. omega (arith, e, first)))
    ∙ find_one ms at k m (omega (arith, within)) there is (λ j d below. before (suc j) d (omega (arith, below)))

-- all members begin before the offset
pub none_from : (ms : List Member) (at i : ℕ) → length ms ≤ i → ((k : ℕ) (d : Member) → k < i → (get_or ms k d).offset < at) → data_of ms at ≡ None
none_from ms at i past before =
    ap (option_map (λ (m : Member). m.bytes)) (find_none ms at (λ k d within e. let less = before k d (omega (arith, within, past)) in omega (arith, e, less)))

module _ (ms : List Member) (at i : ℕ) (m : Member) (before : (k : ℕ) (d : Member) → k < i → (get_or ms k d).offset < at) (inside : i < length ms) (there : m ≡ get_or ms i m) where
  -- the first member that doesn't is another
  pub none_here : AreAscending ms → ((k : ℕ) (d : Member) → i ≤ k → k < length ms → at ≤ (get_or ms k d).offset) → m.offset ≢ at → data_of ms at ≡ None
  none_here ascending from other = ap (option_map (λ (x : Member). x.bytes)) (find_none ms at each) where
    here : (d : Member) → get_or ms i d ≡ m
    here d = get_or_default ms i d m inside ∙ sym there

    each : (k : ℕ) (d : Member) → k < length ms → (get_or ms k d).offset ≢ at
    each k d within e = by (cases_lt k i) where
      behind : (i < k) ⊎ (k ≤ i) → i ≤ k → ⊥
      behind (inl above) from_i = let step = ascending i k d above within in let low = from i d (omega arith) inside in omega (arith, step, low, e)
      behind (inr below) from_i =
          let same : k ≡ i = omega (arith, below, from_i) in
          other (ap (λ (x : Member). x.offset) (sym (here d)) ∙ ap (λ (j : ℕ). (get_or ms j d).offset) (sym same) ∙ e)

      by : (k < i) ⊎ (i ≤ k) → ⊥
      by (inl less) = let low = before k d less in omega (arith, low, e)
      by (inr from_i) = behind (cases_lt i k) from_i

  -- it is the one
  pub one_here : m.offset ≡ at → data_of ms at ≡ Some m.bytes
  one_here is = ap (option_map (λ (x : Member). x.bytes)) (find_one ms at i m inside there is before)
