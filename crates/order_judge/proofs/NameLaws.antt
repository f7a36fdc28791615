-- The names of one member among those of an index by rising offsets, and the entries that they are.
use Rattle.std.proofs.Common.{◌≡◌, ℕ, zero, suc, ◌+◌, ◌<◌, ◌≤◌, ◌++◌, ◌∷◌, true, false, List, length, get_or, take, drop, map, sym, ap, subst, ◌∙◌, arith, eq-eqb, length-take, length-drop}
use Rattle.std.specs.Prelude.{◌↔◌, All, Any, IsPermutation, filter}
use Rattle.std.proofs.lemmas.Bool.{eqb-true, ne_eqb}
use Rattle.std.proofs.lemmas.List.{append-nil, get_or-drop, get_or-take, take-append-drop}
use Rattle.std.proofs.lemmas.List.Elements.{filter-append}
use Rattle.std.proofs.lemmas.List.Sorted.{Contains-permutation, IsPermutation-sym}
use Rattle.elf_model.specs.Inputs.ArchiveFile.{IndexEntry}
use Rattle.elf_model.specs.Inputs.Command.{Plan}
use Rattle.elf_model.specs.Link.Loading.{LoadedObject, needed}
use Rattle.elf_model.proofs.Finding.{Any-from_contains, Any-there, filter-all, filter-none}
use Rattle.elf_model.proofs.Listed.{Contains-filter, Contains-from_filter, Contains-from_map, Contains-map}
use Rattle.elf_model.proofs.Rests.{Left, rest_at}
use Rattle.order_judge.specs.MemberNames.{IsNeededAt, entry_of, is_at, is_name_needed}
use Rattle.order_judge.specs.declared.member_names.MemberName.{MemberName}

-- The part that stands between two counts.
module _ (names through part : List MemberName) (s low high : ℕ) (through_is : through ≡ take high names) (part_is : part ≡ drop low through) (early : (k : ℕ) (d : MemberName) → k < low → (get_or through k d).offset < s) (from : (k : ℕ) (d : MemberName) → low ≤ k → k < length through → s ≤ (get_or through k d).offset) (until : (k : ℕ) (d : MemberName) → k < high → (get_or names k d).offset ≤ s) (late : (k : ℕ) (d : MemberName) → high ≤ k → k < length names → s < (get_or names k d).offset) where
  behind : All (λ n. is_at s n ≡ false) (drop high names)
  behind k d within =
      let n = length-drop high names in
      let l = late (high + k) d (omega arith) (omega (arith, n, within)) in
      subst (λ (m : MemberName). is_at s m ≡ false) (sym (get_or-drop high names k d)) (ne_eqb _ s (λ e. omega (arith, e, l)))

  before : All (λ n. is_at s n ≡ false) (take low through)
  before k d within =
      let n = length-take low through in
      let less : k < low = omega (arith, n, within) in
      let l = early k d less in
      subst (λ (m : MemberName). is_at s m ≡ false) (sym (get_or-take low through k d less)) (ne_eqb _ s (λ e. omega (arith, e, l)))

  short : length through ≤ high
  short =
      let n = ap (length {A = MemberName}) through_is in
      let m = length-take high names in
      omega (arith, n, m)

  here : All (λ n. is_at s n ≡ true) part
  here k d within =
      let n = ap (length {A = MemberName}) part_is in
      let m = length-drop low through in
      let bound = short in
      let inside : low + k < length through = omega (arith, n, m, within) in
      let below : low + k < high = omega (arith, inside, bound) in
      let least = from (low + k) d (omega arith) inside in
      let at : get_or through (low + k) d ≡ get_or names (low + k) d = ap (λ (l : List MemberName). get_or l (low + k) d) through_is ∙ get_or-take high names (low + k) d below in
      let most = subst (λ (m : MemberName). m.offset ≤ s) (sym at) (until (low + k) d below) in
      subst (λ (m : MemberName). is_at s m ≡ true) (sym (ap (λ (l : List MemberName). get_or l k d) part_is ∙ get_or-drop low through k d))
      (eq-eqb _ s (omega (arith, least, most)))

  pub part_filtered : part ≡ filter (is_at s) names
  part_filtered =
      let p = is_at s in
      let whole : names ≡ through ++ drop high names = sym (ap (λ (l : List MemberName). l ++ drop high names) through_is ∙ take-append-drop high names) in
      let front : through ≡ take low through ++ part = sym (ap (λ (l : List MemberName). take low through ++ l) part_is ∙ take-append-drop low through) in
      sym
      (ap (filter p) whole
      ∙ (filter-append p through (drop high names)
      ∙ (ap (λ (l : List MemberName). filter p through ++ l) (filter-none p (drop high names) behind)
      ∙ (append-nil (filter p through)
      ∙ (ap (filter p) front
      ∙ (filter-append p (take low through) part
      ∙ (ap (λ (l : List MemberName). l ++ filter p part) (filter-none p (take low through) before) ∙ filter-all p part here)))))))

-- The names of entries.
pub asked_by :
    (plan : Plan) (loaded : List LoadedObject) (offset : ℕ) (names : List MemberName) (entries : List IndexEntry) → IsPermutation entries (map entry_of names) →
    Any (λ n. is_name_needed plan loaded n ≡ true) (filter (is_at offset) names) ↔ Any (IsNeededAt plan loaded offset) entries
asked_by plan loaded offset names entries same = (
  λ any.
      let n = any.1 in
      let there = Contains-from_filter (is_at offset) names n (any.0, any.2, any.3) in
      Any-from_contains (IsNeededAt plan loaded offset) entries (entry_of n)
      (Contains-permutation (map entry_of names) entries (entry_of n) (IsPermutation-sym entries (map entry_of names) same) (Contains-map entry_of names n there.0))
      (eqb-true n.offset offset there.1, any.4),
  λ any.
      let e = any.1 in
      let image = Contains-from_map entry_of names e (Contains-permutation entries (map entry_of names) e same (any.0, any.2, any.3)) in
      let n = image.of in
      let at : n.offset ≡ offset = ap (λ (x : IndexEntry). x.offset) image.is ∙ any.4.0 in
      Any-from_contains (λ (m : MemberName). is_name_needed plan loaded m ≡ true) (filter (is_at offset) names) n
      (Contains-filter (is_at offset) names n image.there (eq-eqb n.offset offset at))
      (ap (λ (x : IndexEntry). needed plan loaded x.name) image.is ∙ any.4.1),
)

-- A loop that looks for one.
any_head : {X : Type 0} (P : X → Type 0) (x : X) (xs : List X) → (P x → ⊥) → Any P (x ∷ xs) → Any P xs
any_head {X} P x xs never any = at any.0 any.1 any.2 any.3 any.4
  where
    at : (k : ℕ) (y : X) → k < suc (length xs) → get_or (x ∷ xs) k y ≡ y → P y → Any P xs
    at zero y low is p = absurd (never (subst P (sym is) p))
    at (suc k) y low is p = (k, y, omega (arith, low), is, p)

pub any_more :
    {X : Type 0} (Q : Type 0) (P : X → Type 0) (xs : List X) (i : ℕ) (d : X) → i < length xs → (P (get_or xs i d) → ⊥) →
    Left Q (Any P (drop i xs)) → Left Q (Any P (drop (i + 1) xs))
any_more Q P xs i d low never q = (
  λ h. any_head P (get_or xs i d) (drop (i + 1) xs) never (subst (Any P) (rest_at xs i d low) (q.0 h)),
  λ r. q.1 (subst (Any P) (sym (rest_at xs i d low)) (Any-there P (get_or xs i d) (drop (i + 1) xs) r)),
)
