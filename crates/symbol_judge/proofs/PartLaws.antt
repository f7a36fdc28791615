-- The part of a table by rising keys that has one key.
use Rattle.std.proofs.Common.{◌≡◌, ◌∙◌, ℕ, zero, suc, ◌+◌, ◌-◌, ◌<◌, ◌≤◌, ◌⊎◌, inl, inr, List, ◌∷◌, length, get_or, take, drop, sym, ap, subst, arith, length-take, length-drop}
use Rattle.std.specs.Prelude.{◌↔◌, All, Any, Contains}
use Rattle.std.proofs.lemmas.Bool.{cases_lt}
use Rattle.std.proofs.lemmas.List.{get_or-drop, get_or-take}
use Rattle.std.proofs.lemmas.List.Elements.{All-contains, All-contains_itself}
use Rattle.elf_model.proofs.Finding.{Any-from_contains}
use Rattle.elf_model.proofs.Rests.{rest_at}
use Rattle.elf_model.specs.declared.records.SectionHeader.{SectionHeader}
use Rattle.elf_model.specs.declared.records.Symbol as entry
use Rattle.symbol_judge.specs.Locals.{IsLocalBy, key_of}
use Rattle.symbol_judge.specs.declared.locals.Local.{Local}

-- The part that stands between two counts.
module _ (table through part : List Local) (key low high : ℕ) (through_is : through ≡ take high table) (part_is : part ≡ drop low through) (early : (k : ℕ) (d : Local) → k < low → (get_or through k d).key < key) (late : (k : ℕ) (d : Local) → high ≤ k → k < length table → key < (get_or table k d).key) where
  through_at : (k : ℕ) (d : Local) → k < high → get_or through k d ≡ get_or table k d
  through_at k d below = ap (λ (xs : List Local). get_or xs k d) through_is ∙ get_or-take high table k d below

  part_at : (k : ℕ) (d : Local) → low + k < high → get_or part k d ≡ get_or table (low + k) d
  part_at k d below = ap (λ (xs : List Local). get_or xs k d) part_is ∙ (get_or-drop low through k d ∙ through_at (low + k) d below)

  -- what stands in the part stands in the table
  pub whole_of : (x : Local) → Contains part x → Contains table x
  whole_of x (k, within, is) =
      let n = ap (length {A = Local}) part_is in
      let m = length-drop low through in
      let o = ap (length {A = Local}) through_is in
      let p = length-take high table in
      let below : low + k < high = omega (arith, n, m, o, p, within) in
      (low + k, omega (arith, n, m, o, p, within), sym (part_at k x below) ∙ is)

  -- and what has the key stands in the part
  pub part_of : (x : Local) → Contains table x → x.key ≡ key → Contains part x
  part_of x (k, within, is) same = by (cases_lt k high) (cases_lt k low)
    where
      by : (k < high) ⊎ (high ≤ k) → (k < low) ⊎ (low ≤ k) → Contains part x
      by (inr past) other =
          let l = subst (λ (y : Local). key < y.key) is (late k x past within) in
          absurd (omega (arith, l, same))
      by (inl below) (inl before) =
          let l = subst (λ (y : Local). y.key < key) (through_at k x below ∙ is) (early k x before) in
          absurd (omega (arith, l, same))
      by (inl below) (inr behind) =
          let e : low + (k - low) ≡ k = omega (arith, behind) in
          let n = ap (length {A = Local}) part_is in
          let m = length-drop low through in
          let o = ap (length {A = Local}) through_is in
          let p = length-take high table in (
            k - low,
            omega (arith, n, m, o, p, behind, below, within),
            part_at (k - low) x (omega (arith, e, below)) ∙ (ap (λ (i : ℕ). get_or table i x) e ∙ is),
          )

  -- Symbols whose keys are right: one that fits an entry has the entry's key.
  module _ (keys : All (λ x. x.key ≡ key_of x.number x.wanted.value) table) (hs : List SectionHeader) (number : ℕ) (e : entry.Symbol) (key_is : key ≡ key_of number e.st_value) where
    pub part_iff : Any (IsLocalBy hs number e) part ↔ Any (IsLocalBy hs number e) table
    part_iff = (
      λ a. Any-from_contains (IsLocalBy hs number e) table a.1 (whole_of a.1 (a.0, a.2, a.3)) a.4,
      λ a.
          let there : Contains table a.1 = (a.0, a.2, a.3) in
          let own = All-contains (λ (x : Local). x.key ≡ key_of x.number x.wanted.value) table a.1 keys there in
          let b : IsLocalBy hs number e a.1 = a.4 in
          let numbers = ap (λ (n : ℕ). key_of n a.1.wanted.value) b.number_is in
          let values = ap (λ (v : ℕ). key_of number v) (sym b.fits.value) in
          Any-from_contains (IsLocalBy hs number e) part a.1 (part_of a.1 there (own ∙ (numbers ∙ (values ∙ sym key_is)))) b,
    )

-- What one of a list has to be, once the first isn't.
any_tail : {X : Type 0} (P : X → Type 0) (x : X) (xs : List X) → (P x → ⊥) → Any P (x ∷ xs) → Any P xs
any_tail P x xs never (zero, y, low, is, p) = absurd (never (subst P (sym is) p))
any_tail P x xs never (suc k, y, low, is, p) = (k, y, omega (arith, low), is, p)

pub any_next :
    {X : Type 0} (P : X → Type 0) (xs : List X) (i : ℕ) (d : X) → i < length xs → (P (get_or xs i d) → ⊥) → Any P (drop i xs) → Any P (drop (i + 1) xs)
any_next P xs i d within never some = any_tail P (get_or xs i d) (drop (i + 1) xs) never (subst (Any P) (rest_at xs i d within) some)

pub any_end : {X : Type 0} (P : X → Type 0) (xs : List X) (i : ℕ) → length xs ≤ i → Any P (drop i xs) → ⊥
any_end P xs i past (k, y, low, is, p) = let n = length-drop i xs in omega (arith, n, past, low)

pub any_at : {X : Type 0} (P : X → Type 0) (xs : List X) (i : ℕ) (d : X) → i < length xs → P (get_or xs i d) → Any P xs
any_at P xs i d within p = Any-from_contains P xs (get_or xs i d) (All-contains_itself xs i d within) p
