-- A slot that stands at a position of slots that differ stands there first; and it is that of a symbol, where the position is
-- noted for the number of the symbol's name.
use Rattle.std.proofs.Common.{◌≡◌, ℕ, zero, suc, ◌+◌, ◌++◌, ◌||◌, ◌<◌, nat_lt, Bool, true, false, not, cond, List, [], ◌∷◌, Option, Some, None, length, refl, sym, ap, ◌∙◌, arith, subst}
use Rattle.std.specs.Prelude.{IsSomeAnd, position, slice_index_or}
use Rattle.std.specs.List.{AllByRecursion, IsDistinct, list_any, position_or_len, slice_get}
use Rattle.std.specs.Option.{option_and_then}
use Rattle.std.proofs.lemmas.Bool.{and_from, and_parts, false≢true, lt-ltb, ltb-true}
use Rattle.std.proofs.lemmas.Map.Keys.{IsDistinct-head, IsDistinct-tail}
use Rattle.std.proofs.lemmas.Option.{get_or_from_slice_get, none-some, slice_get_within}
use Rattle.indexmap.specs.IndexSet.{insert_key}
use Rattle.elf_model.specs.Link.Loading.{LoadedObject, is_global_or_weak}
use Rattle.elf_model.specs.Image.MapRecord.{OfLocal, OfName, TargetRow}
use Rattle.elf_model.specs.Inputs.ObjectFile.{name_of_symbol, null_symbol, symbols}
use Rattle.elf_model.specs.Link.Relocation.{is_local, symbol_at}
use Rattle.elf_model.specs.Link.Resolution.{symbol_of}
use Rattle.elf_model.specs.Link.Slots.{Request, same_kind, same_request, same_target, target_of}
use Rattle.elf_model.specs.declared.link_map.SlotKind.{SlotKind}
use Rattle.elf_model.specs.declared.records.Symbol.{Symbol}
use Rattle.elf_model.proofs.SameRequests.{requests_equal, same_itself}
use Rattle.search.specs.Loads.{LoadedPlan}
use Rattle.search.specs.Names.{number_of}
use Rattle.search.specs.Numbers.{AreNamed, name_number}
use Rattle.resolve.proofs.NamedNumbers.{name_told}
use Rattle.resolve.proofs.PlacesByNumber.{shared_global}
use Rattle.got_tls.specs.Asking.{request_for}
use Rattle.got_tls.specs.Positions.{ArePositions, IsNoted}
use Rattle.got_tls.specs.Views.{owner_view, slot_view, slot_views}
use Rattle.got_tls.specs.declared.slot.Slot.{Slot}
use Rattle.got_tls.proofs.Keys.{position_same, slot_eq, slot_same}

-- what holds of each holds of what stands at a number
at_number : (P : Slot → Type 0) (ks : List Slot) (i : ℕ) (k : Slot) → AllByRecursion P ks → slice_get ks i ≡ Some k → P k
at_number P [] i k all there = absurd (cc)
at_number P (x ∷ ks) zero k all there = subst P (first there) all.0
  where
    first : Some x ≡ Some k → x ≡ k
    first e = cc
at_number P (x ∷ ks) (suc i) k all there = at_number P ks i k all.1 there

-- two slots that are equal to one are equal
equal_both : (s x k : Slot) → slot_eq s x ≡ true → slot_eq s k ≡ true → slot_eq x k ≡ true
equal_both s x k same_x same_k =
    let e : slot_view s ≡ slot_view x = requests_equal (slot_view s) (slot_view x) (sym (slot_same s x) ∙ same_x) in
    slot_same x k ∙ (ap (λ (q : Request). same_request q (slot_view k)) (sym e) ∙ (sym (slot_same s k) ∙ same_k))

first_there : (s : Slot) (ks : List Slot) (i : ℕ) (k : Slot) → IsDistinct slot_eq ks → slice_get ks i ≡ Some k → slot_eq s k ≡ true → position_or_len (slot_eq s) ks ≡ i
first_there s [] i k differ there same = absurd (cc)
first_there s (x ∷ ks) zero k differ there same =
    ap (λ (b : Bool). cond (not b) (1 + position_or_len (slot_eq s) ks) 0) (ap (slot_eq s) (first there) ∙ same)
  where
    first : Some x ≡ Some k → x ≡ k
    first e = cc
first_there s (x ∷ ks) (suc i) k differ there same = by (slot_eq s x) refl (first_there s ks i k (IsDistinct-tail slot_eq x ks differ) there same)
  where
    by : (b : Bool) → slot_eq s x ≡ b → position_or_len (slot_eq s) ks ≡ i → cond (not b) (1 + position_or_len (slot_eq s) ks) 0 ≡ suc i
    by true e rest =
        absurd (false≢true (sym (at_number (λ (y : Slot). slot_eq x y ≡ false) ks i k (IsDistinct-head slot_eq x ks differ) there) ∙ equal_both s x k e same))
    by false e rest = omega (arith, rest)

pub position_of :
    (s : Slot) (ks : List Slot) (i : ℕ) (k : Slot) → IsDistinct slot_eq ks → slice_get ks i ≡ Some k → slot_eq s k ≡ true →
    position (same_request (slot_view s)) (slot_views ks) ≡ Some i
position_of s ks i k differ there same =
    sym (position_same s ks)
    ∙ (ap (λ (n : ℕ). cond {A = Option ℕ} (nat_lt n (length ks)) (Some n) None) (first_there s ks i k differ there same)
    ∙ ap (λ (b : Bool). cond {A = Option ℕ} b (Some i) None) (lt-ltb i (length ks) (slice_get_within ks i k there)))

-- what has a position is among the list
among : (q : Request) (rs : List Request) → position_or_len (same_request q) rs < length rs → list_any (same_request q) rs ≡ true
among q [] below = absurd (omega (arith, below))
among q (r ∷ rs) below = by (same_request q r) below (among q rs)
  where
    by :
        (b : Bool) → cond (not b) (1 + position_or_len (same_request q) rs) 0 < length (r ∷ rs) →
        (position_or_len (same_request q) rs < length rs → list_any (same_request q) rs ≡ true) → (b || list_any (same_request q) rs) ≡ true
    by true low rest = refl
    by false low rest = rest (omega (arith, low))

-- and isn't put behind it
pub not_added : (q : Request) (qs : List Request) (i : ℕ) → position (same_request q) qs ≡ Some i → insert_key same_request qs q ≡ qs
not_added q qs i told = ap (λ (b : Bool). cond b qs (qs ++ q ∷ [])) (among q qs (within (nat_lt (position_or_len (same_request q) qs) (length qs)) refl told))
  where
    within : (b : Bool) → nat_lt (position_or_len (same_request q) qs) (length qs) ≡ b → cond {A = Option ℕ} b (Some (position_or_len (same_request q) qs)) None ≡ Some i → position_or_len (same_request q) qs < length qs
    within true t e = ltb-true _ _ t
    within false t e = absurd (cc)

-- The target of a symbol whose name has a number is that name.
module _ (l : LoadedPlan) (k j number : ℕ) (o : LoadedObject) (named : AreNamed l) (here : slice_get l.objects k ≡ Some o) (is : name_number l k j ≡ Some number) where
  abbrev of_entry : Symbol → Option ℕ
  of_entry x = cond (is_global_or_weak x) (Some (number_of l.names (name_of_symbol o.bytes x))) None

  entry_told : option_and_then of_entry (slice_get (symbols o.bytes) j) ≡ Some number
  entry_told = sym (ap (option_and_then (λ (x : LoadedObject). option_and_then (λ s. cond {A = Option ℕ} (is_global_or_weak s) (Some (number_of l.names (name_of_symbol x.bytes s))) None) (slice_get (symbols x.bytes) j))) here) ∙ is

  not_local : is_local (symbol_at k o j) ≡ false
  not_local = by (slice_get (symbols o.bytes) j) refl entry_told
    where
      shared : (x : Symbol) → slice_get (symbols o.bytes) j ≡ Some x → (b : Bool) → is_global_or_weak x ≡ b →
          cond {A = Option ℕ} b (Some (number_of l.names (name_of_symbol o.bytes x))) None ≡ Some number → is_local (symbol_at k o j) ≡ false
      shared x at true e told =
          ap (λ (y : Symbol). is_local (symbol_of k o j y)) (get_or_from_slice_get (symbols o.bytes) j x null_symbol at)
          ∙ shared_global x e
      shared x at false e told = absurd (none-some number told)

      by : (s : Option Symbol) → slice_get (symbols o.bytes) j ≡ s → option_and_then of_entry s ≡ Some number → is_local (symbol_at k o j) ≡ false
      by None at told = absurd (none-some number told)
      by (Some x) at told = shared x at (is_global_or_weak x) refl told

  pub named_target : target_of (symbol_at k o j) ≡ OfName (slice_index_or l.names number [])
  named_target =
      ap (λ (b : Bool). cond b (OfLocal k j) (OfName (symbol_at k o j).name)) not_local
      ∙ ap OfName (sym (name_told l k j o number named here is))

  -- so a slot of that name is the symbol's
  pub told_at :
      (kind : SlotKind) (ks : List Slot) (ps : List ℕ) (i : ℕ) (known : Slot) → ArePositions l.names ks ps → IsNoted ps number i →
      slice_get ks i ≡ Some known → IsDistinct slot_eq ks → same_kind (slot_view known).kind kind ≡ true →
      position (same_request (request_for kind k o j)) (slot_views ks) ≡ Some i
  told_at kind ks ps i known h noted there unique same =
      let of_name : (slot_view known).target ≡ OfName (slice_index_or l.names number []) =
      subst (λ (s : Option Slot). IsSomeAnd s (λ x. owner_view x.owner ≡ OfName (slice_index_or l.names number []))) there (h number i noted) in
      let v = slot_view known in
      let target : target_of (symbol_at k o j) ≡ v.target = named_target ∙ sym of_name in
      let itself = and_parts (same_kind v.kind v.kind) (same_target v.target v.target) (same_itself v) in
      let of_kind : Request = record { kind = kind; target = v.target } in
      let equal : v ≡ of_kind = requests_equal v of_kind (and_from (same_kind v.kind kind) (same_target v.target v.target) same itself.1) in
      let request : v ≡ request_for kind k o j = equal ∙ ap (λ (t : TargetRow). record { kind = kind; target = t }) (sym target) in
      ap (λ (q : Request). position (same_request q) (slot_views ks)) (sym request)
      ∙ position_of known ks i known unique there (slot_same known known ∙ same_itself v)
