-- The name of a member, and the names of the first members with one more.
use Rattle.std.proofs.Common.{◌≡◌, ℕ, ◌+◌, ◌<◌, ◌≤◌, ◌⊎◌, inl, inr, Bool, true, false, cond, List, [], ◌∷◌, Option, None, Some, length, take, drop, get_or, refl, ap, ◌∙◌, sym, subst, arith}
use Rattle.std.specs.Prelude.{IsTrue, count_by, find, is_some, nat_lt, option_map, unwrap_or}
use Rattle.std.specs.Option.{option_or}
use Rattle.std.proofs.lemmas.Bool.{cases_lt, false≢true, lt-ltb, ltb-true}
use Rattle.std.proofs.lemmas.List.{get_or_default, take_all, take_more}
use Rattle.std.proofs.lemmas.List.Folds.{find-append}
use Rattle.std.proofs.lemmas.List.Sums.{count_by_more_no, count_by_more_yes, sum_by-take-le}
use Rattle.elf_model.specs.Inputs.ArchiveFile.{HasGoodNames, IsLongName, IsNamed, IsShortName, StoredMember, is_index, is_long_names, long_names, null_member, number}
use Rattle.ar_index.specs.Reading.{IsLimit, IsLongNameField}
use Rattle.ar_index.proofs.LongTexts.{limit_none, none_at_all}

-- a member whose name field holds no other name has a long name, or none
module _ (m : StoredMember) (name : List ℕ) (same : name ≡ m.name) (no_index : is_index m ≡ false) (no_names : is_long_names m ≡ false) (no_short : IsShortName name → ⊥) where
  long_only : (names : List ℕ) → IsNamed names m → IsLongName names name
  long_only names named = elim named [
    | inl index ↦ absurd (false≢true (sym no_index ∙ index))
    | inr other ↦ elim other [
      | inl holds ↦ absurd (false≢true (sym no_names ∙ holds))
      | inr own ↦ elim own [
        | inl short ↦ absurd (no_short (subst IsShortName (sym same) short))
        | inr long ↦ subst (IsLongName names) (sym same) long
      ]
    ]
  ]

  pub long_is : (offset limit : ℕ) → IsLongNameField name → offset ≡ number (drop 1 name) → (names : List ℕ) → IsLimit names limit
      → (IsTrue (nat_lt offset limit) → IsNamed names m) × (IsNamed names m → IsTrue (nat_lt offset limit))
  long_is offset limit field offset_is names limited = (
    λ below.
        let text = (limited (number (drop 1 name))).1 (subst (λ (n : ℕ). n < limit) offset_is (ltb-true offset limit below)) in
        inr (inr (inr (subst (IsLongName names) same record { slash = field.0; decimal = field.1; ended = text }))),
    λ named.
        let long = long_only names named in
        lt-ltb offset limit (subst (λ (n : ℕ). n < limit) (sym offset_is) ((limited (number (drop 1 name))).0 long.ended)),
  )

-- the first i members have names, and the long names among them, which are there or not, have texts below a limit
pub record AreNamedSoFar (ms : List StoredMember) (i limit : ℕ) (there : Bool) : Type 0 where
  pub found : is_some (find is_long_names (take i ms)) ≡ there
  pub one : count_by is_long_names (take i ms) ≡ cond {A = ℕ} there 1 0
  pub limited : IsLimit (long_names (take i ms)) limit
  pub each : (k : ℕ) → k < i → IsNamed (long_names (take k ms)) (get_or ms k null_member)

pub none_so_far : (ms : List StoredMember) → AreNamedSoFar ms 0 0 false
none_so_far ms = record { found = refl; one = refl; limited = limit_none [] 0 (none_at_all []) (omega arith); each = λ k below. absurd (omega (arith, below)) }

find_more : (ms : List StoredMember) (i : ℕ) → i < length ms
    → find is_long_names (take (i + 1) ms) ≡ option_or (find is_long_names (take i ms)) (cond (is_long_names (get_or ms i null_member)) (Some (get_or ms i null_member)) None)
find_more ms i within = ap (find is_long_names) (take_more ms i null_member within) ∙ find-append is_long_names (take i ms) (get_or ms i null_member ∷ [])

or_none : (o : Option StoredMember) → option_or o None ≡ o
or_none None = refl
or_none (Some m) = refl

none_or : (o p : Option StoredMember) → is_some o ≡ false → option_or o p ≡ p
none_or None p e = refl
none_or (Some m) p e = absurd (false≢true (sym e))

each_more : (ms : List StoredMember) (i : ℕ) → ((k : ℕ) → k < i → IsNamed (long_names (take k ms)) (get_or ms k null_member))
    → IsNamed (long_names (take i ms)) (get_or ms i null_member) → (k : ℕ) → k < i + 1 → IsNamed (long_names (take k ms)) (get_or ms k null_member)
each_more ms i before here k below = by (cases_lt k i) where
  by : (k < i) ⊎ (i ≤ k) → IsNamed (long_names (take k ms)) (get_or ms k null_member)
  by (inl less) = before k less
  by (inr from) = let e : i ≡ k = omega (arith, from, below) in subst (λ (j : ℕ). IsNamed (long_names (take j ms)) (get_or ms j null_member)) e here

-- the member that was read
pub read_is : (ms : List StoredMember) (i : ℕ) (m : StoredMember) → i < length ms → m ≡ get_or ms i m → get_or ms i null_member ≡ m
read_is ms i m within is = get_or_default ms i null_member m within ∙ sym is

module _ (ms : List StoredMember) (i limit : ℕ) (there : Bool) (m : StoredMember) (within : i < length ms) (m_is : get_or ms i null_member ≡ m) (so_far : AreNamedSoFar ms i limit there) where
  -- one more member that isn't the long names
  pub one_more : is_long_names m ≡ false → IsNamed (long_names (take i ms)) m → AreNamedSoFar ms (i + 1) limit there
  one_more other named =
      let is_other : is_long_names (get_or ms i null_member) ≡ false = ap is_long_names m_is ∙ other in
      let same : find is_long_names (take (i + 1) ms) ≡ find is_long_names (take i ms) =
      find_more ms i within ∙ ap (λ b. option_or (find is_long_names (take i ms)) (cond b (Some (get_or ms i null_member)) None)) is_other ∙ or_none (find is_long_names (take i ms))
      in
      record {
        found = ap is_some same ∙ so_far.found;
        one = count_by_more_no is_long_names ms i null_member within is_other ∙ so_far.one;
        limited = subst (λ (o : Option StoredMember). IsLimit (unwrap_or (option_map (λ x. x.bytes) o) []) limit) (sym same) so_far.limited;
        each = each_more ms i so_far.each (subst (IsNamed (long_names (take i ms))) (sym m_is) named);
      }

  -- the long names, where there were none
  pub names_more : (bytes : List ℕ) (new : ℕ) → there ≡ false → is_long_names m ≡ true → bytes ≡ m.bytes → IsLimit bytes new → AreNamedSoFar ms (i + 1) new true
  names_more bytes new none is bytes_is limited =
      let is_it : is_long_names (get_or ms i null_member) ≡ true = ap is_long_names m_is ∙ is in
      let first : find is_long_names (take (i + 1) ms) ≡ Some m =
      find_more ms i within ∙ ap (λ b. option_or (find is_long_names (take i ms)) (cond b (Some (get_or ms i null_member)) None)) is_it
      ∙ none_or (find is_long_names (take i ms)) (Some (get_or ms i null_member)) (so_far.found ∙ none) ∙ ap Some m_is
      in
      let before : count_by is_long_names (take i ms) ≡ 0 = so_far.one ∙ ap (λ b. cond {A = ℕ} b 1 0) none in
      let count = count_by_more_yes is_long_names ms i null_member within is_it in
      record {
        found = ap is_some first;
        one = omega (arith, count, before);
        limited = subst (λ (o : Option StoredMember). IsLimit (unwrap_or (option_map (λ x. x.bytes) o) []) new) (sym first) (subst (λ (bs : List ℕ). IsLimit bs new) bytes_is limited);
        each = each_more ms i so_far.each (inr (inl is_it));
      }

  -- the long names again
  pub names_again : there ≡ true → is_long_names m ≡ true → HasGoodNames ms → ⊥
  names_again again is good =
      let is_it : is_long_names (get_or ms i null_member) ≡ true = ap is_long_names m_is ∙ is in
      let before : count_by is_long_names (take i ms) ≡ 1 = so_far.one ∙ ap (λ b. cond {A = ℕ} b 1 0) again in
      let count = count_by_more_yes is_long_names ms i null_member within is_it in
      let bound : count_by is_long_names (take (i + 1) ms) ≤ count_by is_long_names ms = sum_by-take-le (λ x. cond {A = ℕ} (is_long_names x) 1 0) ms (i + 1) in
      let one = good.one in
      omega (arith, count, before, bound, one)

  -- a member without a name
  pub no_name : (IsNamed (long_names (take i ms)) m → ⊥) → HasGoodNames ms → ⊥
  no_name never good = never (subst (IsNamed (long_names (take i ms))) m_is (good.each i within))

pub all_named : (ms : List StoredMember) (i limit : ℕ) (there : Bool) → length ms ≤ i → AreNamedSoFar ms i limit there → HasGoodNames ms
all_named ms i limit there past so_far =
    let count : count_by is_long_names ms ≡ cond {A = ℕ} there 1 0 = ap (count_by is_long_names) (sym (take_all i ms past)) ∙ so_far.one in
    record { one = by there count; each = λ k within. so_far.each k (omega (arith, within, past)) } where
      by : (b : Bool) → count_by is_long_names ms ≡ cond {A = ℕ} b 1 0 → count_by is_long_names ms ≤ 1
      by true e = omega (arith, e)
      by false e = omega (arith, e)
