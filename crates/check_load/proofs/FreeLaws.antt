-- The first entry of an item that gives a member, among those that are awake.
use Rattle.std.proofs.Common.{◌≡◌, ℕ, zero, suc, ◌<◌, ◌≤◌, ◌==◌, ◌&&◌, Bool, true, false, not, cond, List, [], ◌∷◌, Option, Some, None, refl, sym, ◌∙◌, ap, subst, arith}
use Rattle.std.specs.Prelude.{IsSomeAnd, option_map}
use Rattle.std.specs.List.{find, slice_get}
use Rattle.std.proofs.lemmas.Bool.{and_from, and_parts, eqb-false, eqb-true, false≢true, false_from_ne_true}
use Rattle.std.proofs.lemmas.Option.{none-some, same_Some}
use Rattle.elf_model.specs.Inputs.ArchiveFile.{IndexEntry}
use Rattle.elf_model.specs.Link.Loading.{is_next, next}
use Rattle.elf_model.specs.Inputs.Opening.{Opened, archive_entries}
use Rattle.elf_model.proofs.LoadingBounds.{by_case}
use Rattle.check_load.specs.Awake.{is_awake, is_place}
use Rattle.check_load.specs.Loaders.{AreFreeAwake, Knows, is_free, loaded}
use Rattle.check_load.specs.Names.{Names}
use Rattle.check_load.specs.Places.{IsAt}
use Rattle.check_load.specs.declared.awake_entries.Awake.{Awake}
use Rattle.check_load.specs.declared.loader.Loader.{Loader}
use Rattle.check_load.specs.declared.taken_members.Taken.{Taken}

-- the first that passes a test
find_first :
    (test : IndexEntry → Bool) (es : List IndexEntry) (p : ℕ) (e : IndexEntry) → slice_get es p ≡ Some e → test e ≡ true →
    ((k : ℕ) (x : IndexEntry) → k < p → slice_get es k ≡ Some x → test x ≡ true → ⊥) → find test es ≡ Some e
find_first test [] p e at passes none = absurd (none-some e at)
find_first test (x ∷ xs) zero e at passes none = ap (λ (b : Bool). cond b (Some x) (find test xs)) (ap test (same_Some x e at) ∙ passes) ∙ at
find_first test (x ∷ xs) (suc p) e at passes none =
    ap (λ (b : Bool). cond b (Some x) (find test xs)) (false_from_ne_true (test x) (λ t. none 0 x (omega arith) refl t))
    ∙ find_first test xs p e at passes (λ k y low here t. none (suc k) y (omega (arith, low)) here t)

pub find_none : (test : IndexEntry → Bool) (es : List IndexEntry) → ((k : ℕ) (x : IndexEntry) → slice_get es k ≡ Some x → test x ≡ true → ⊥) → find test es ≡ None
find_none test [] none = refl
find_none test (x ∷ xs) none =
    ap (λ (b : Bool). cond b (Some x) (find test xs)) (false_from_ne_true (test x) (λ t. none 0 x refl t)) ∙ find_none test xs (λ k y here t. none (suc k) y here t)

abbrev pub offset_of : Option IndexEntry → Option ℕ
offset_of f = option_map (λ e. e.offset) f

module _ (names : Names) (taken : Taken) (item : ℕ) (es : List IndexEntry) where
  -- the first that is awake gives a member
  pub first_gives :
      (a : Awake) (i k : ℕ) → AreFreeAwake names taken item es a → ((q : ℕ) → is_awake a item q ≡ true → i ≤ q) →
      IsSomeAnd (slice_get es i) (λ e. (is_free names taken item e ≡ true) × (k ≡ e.offset)) → Some k ≡ offset_of (find (is_free names taken item) es)
  first_gives a i k awake least found = by (slice_get es i) refl found
    where
      by : (f : Option IndexEntry) → slice_get es i ≡ f → IsSomeAnd f (λ e. (is_free names taken item e ≡ true) × (k ≡ e.offset)) → Some k ≡ offset_of (find (is_free names taken item) es)
      by None at some = absurd some
      by (Some e) at some =
          ap Some some.1
          ∙ sym (ap offset_of
          (find_first (is_free names taken item) es i e at some.0 (λ q x low here t. let n = least q (awake q x here t) in omega (arith, low, n))))

  -- none is awake
  pub none_gives : (a : Awake) → AreFreeAwake names taken item es a → ((q : ℕ) → is_awake a item q ≡ false) → None ≡ offset_of (find (is_free names taken item) es)
  none_gives a awake none = sym (ap offset_of (find_none (is_free names taken item) es (λ q x here t. false≢true (sym (none q) ∙ awake q x here t))))

  -- an entry that gives none goes to sleep
  module _ (a b : Awake) (i : ℕ) (asleep : (j q : ℕ) → is_awake b j q ≡ (not (is_place j q (item, i)) && is_awake a j q)) where
    kept : (j q : ℕ) → (is_place j q (item, i) ≡ true → ⊥) → is_awake a j q ≡ true → is_awake b j q ≡ true
    kept j q other there =
        asleep j q ∙ and_from (not (is_place j q (item, i))) (is_awake a j q) (ap not (false_from_ne_true (is_place j q (item, i)) other)) there

    pub still_awake :
        AreFreeAwake names taken item es a → ((e : IndexEntry) → slice_get es i ≡ Some e → is_free names taken item e ≡ false) → AreFreeAwake names taken item es b
    still_awake awake dead q e here t =
        kept item q (λ same.
        let at = eqb-true i q (and_parts (item == item) (i == q) same).1 in
        false≢true (sym (dead e (ap (slice_get es) at ∙ here)) ∙ t)) (awake q e here t)

    pub others_awake : (j q : ℕ) → (j ≡ item → ⊥) → is_awake a j q ≡ true → is_awake b j q ≡ true
    others_awake j q other there = kept j q (λ same. other (sym (eqb-true item j (and_parts (item == j) (i == q) same).0))) there

-- A loader's tables tell which entry is next.
pub free_is_next : (os : List Opened) (l : Loader) (o : Opened) → Knows os l → is_free l.names l.taken o.number ≡ is_next l.plan.now (loaded l) o
free_is_next os l o k = λ j e. (k.requested e.name j && not (k.defined e.name j)) && not (k.taken o.number e.offset j)

pub next_told :
    (os : List Opened) (l : Loader) (o : Opened) (item : ℕ) (es : List IndexEntry) (r : Option ℕ) → Knows os l → item ≡ o.number → es ≡ archive_entries o.bytes →
    r ≡ offset_of (find (is_free l.names l.taken item) es) → r ≡ offset_of (next l.plan.now (loaded l) o)
next_told os l o item es r k number entries told =
    told ∙ (ap (λ (n : ℕ). offset_of (find (is_free l.names l.taken n) es)) number
    ∙ (ap (λ (xs : List IndexEntry). offset_of (find (is_free l.names l.taken o.number) xs)) entries
    ∙ ap (λ (test : IndexEntry → Bool). offset_of (find test (archive_entries o.bytes))) (free_is_next os l o k)))

-- what it knows, it knows after a look at the entries of an archive that stand awake
pub looked :
    (os : List Opened) (l : Loader) (o : Opened) (b : Awake) → Knows os l → IsAt os o → AreFreeAwake l.names l.taken o.number (archive_entries o.bytes) b →
    ((i q : ℕ) → (i ≡ o.number → ⊥) → is_awake l.awake i q ≡ true → is_awake b i q ≡ true) → Knows os (record l { awake = b })
looked os l o b k at own others = record {
  seen = k.seen;
  requested = k.requested;
  defined = k.defined;
  taken = k.taken;
  begun = k.begun;
  loadable = k.loadable;
  numbered = k.numbered;
  awake = λ p there archive searched. by_case (p.number == o.number) (same p there) (λ e q x here t. others p.number q (λ n. eqb-false p.number o.number e n) (k.awake p there archive searched q x here t));
}
  where
    same : (p : Opened) → IsAt os p → (p.number == o.number) ≡ true → AreFreeAwake l.names l.taken p.number (archive_entries p.bytes) b
    same p there e =
        let number = eqb-true p.number o.number e in
        let is : o ≡ p = same_Some o p (sym at ∙ (ap (slice_get os) (sym number) ∙ there)) in
        subst (λ (x : Opened). AreFreeAwake l.names l.taken x.number (archive_entries x.bytes) b) is own
