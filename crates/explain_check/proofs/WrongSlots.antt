-- Which slots deny that each request has one slot where a relocation makes it, and none elsewhere.
use Rattle.std.proofs.Common.{◌≡◌, ℕ, ◌≤◌, Bool, true, false, not, cond, List, None, Option, Some, sym, ◌∙◌, ap, subst, arith}
use Rattle.std.specs.Prelude.{Contains}
use Rattle.std.specs.List.{filter_map, list_any, slice_get}
use Rattle.std.specs.Option.{option_map_or}
use Rattle.std.proofs.lemmas.Bool.{false≢true}
use Rattle.std.proofs.lemmas.List.Folds.{list_any-from_Any}
use Rattle.std.proofs.lemmas.Option.{get_or_from_slice_get, same_Some, slice_get_within}
use Rattle.elf_model.proofs.Listed.{Contains-from_slice_get}
use Rattle.elf_model.proofs.SameRequests.{same_itself}
use Rattle.elf_model.specs.Link.Loading.{LoadedObject}
use Rattle.elf_model.specs.Image.MapRecord.{SlotRow}
use Rattle.elf_model.specs.Link.Relocation.{Relocation, relocations}
use Rattle.elf_model.specs.Image.RightLink.{HasSlot, Subject, objects_of}
use Rattle.elf_model.specs.Link.Slots.{Request, is_slot_of, request_of, requests, same_request}
use Rattle.check_link.specs.Slots.{line_of, request_view}
use Rattle.check_link.specs.declared.requests.Request as code
use Rattle.check_relocs.proofs.NeedSteps.{any_requests}
use Rattle.check_relocs.specs.Needs.{AreNeeds, asks_for_slot}
use Rattle.check_relocs.specs.declared.needs.Needs.{Needs}
use Rattle.checker.proofs.SlotCounts.{any_counted, count, count_is, none_counted, only_first}
use Rattle.explain_check.specs.Places.{IsNeedless, IsUnserved, IsWrongSlot}
use Rattle.input_names.proofs.ListedPlaces.{listed}
use Rattle.input_names.specs.declared.relocation_places.RelocationPlace.{RelocationPlace}

few : (b : Bool) (n : ℕ) → n ≡ cond b 1 0 → n ≤ 1
few true n e = omega (arith, e)
few false n e = omega (arith, e)

module _ (s : Subject) (right : (q : Request) → HasSlot s.map.slots (objects_of s) q) where
  abbrev asked : Request → Bool
  asked q = list_any (same_request q) (requests (objects_of s))

  counted : (q : Request) → count q s.map.slots ≡ cond (asked q) 1 0
  counted q = count_is q s.map.slots ∙ right q

-- where the first line for a slot is another one, or no relocation asks for it
pub needless :
    (s : Subject) (k : ℕ) (first : Option ℕ) (q : code.Request) → IsWrongSlot s k first q → ((r : Request) → HasSlot s.map.slots (objects_of s) r) → ⊥
needless s k first q h right = by first h.needless
  where
    r : Request
    r = request_view q

    is : is_slot_of r h.row ≡ true
    is = subst (λ (x : Request). same_request r x ≡ true) h.request (same_itself r)

    by : (o : Option ℕ) → IsNeedless s k o q → ⊥
    by (Some i) n =
        let at = get_or_from_slice_get s.map.slots k h.row h.row h.there in
        let only = only_first r s.map.slots 0 k h.row (few (asked s right r) _ (counted s right r)) (slice_get_within s.map.slots k h.row h.there) (subst (λ (x : SlotRow). is_slot_of r x ≡ true) (sym at) is) in
        n.1 (same_Some i k (sym n.0 ∙ (only ∙ ap Some (omega arith))))
    by None none =
        let c = Contains-from_slice_get s.map.slots k h.row h.there in
        let one = any_counted r s.map.slots (list_any-from_Any (is_slot_of r) s.map.slots (c.0, h.row, c.1, c.2, is)) in
        let zeroed = counted s right r ∙ ap (λ (b : Bool). cond b 1 0) none in
        omega (arith, one, zeroed)

-- a request whose line has no mark is none of these
pub unmarked :
    (needs : Needs) (objects : List LoadedObject) (rows : List SlotRow) → AreNeeds objects rows needs → (q : Request) (i : ℕ) → line_of rows q ≡ Some i →
    (mark : Bool) → slice_get needs.asked.items i ≡ Some mark → not mark ≡ true → list_any (same_request q) (requests objects) ≡ false
unmarked needs objects rows are q i at true there e = absurd (false≢true e)
unmarked needs objects rows are q i at false there e = sym (are.asked q i at) ∙ get_or_from_slice_get needs.asked.items i false false there

-- the request of a kept relocation is one of those that relocations make
asked_by : (q : Request) (rs : List Relocation) (r : Relocation) → Contains rs r → request_of r ≡ Some q → list_any (same_request q) (filter_map request_of rs) ≡ true
asked_by q rs r c asks =
    sym (any_requests q rs)
    ∙ list_any-from_Any (asks_for_slot q) rs
    (c.0, r, c.1, c.2, ap (λ (o : Option Request). option_map_or (same_request q) o false) asks ∙ same_itself q)

pub unserved : (s : Subject) (p : RelocationPlace) (q : code.Request) → IsUnserved s p q → ((r : Request) → HasSlot s.map.slots (objects_of s) r) → ⊥
unserved s p q h right =
    let r = request_view q in
    let made = asked_by r (relocations (objects_of s)) h.r (listed (objects_of s) p h.r h.at) h.asks in
    let zeroed = none_counted r s.map.slots h.none in
    let one = counted s right r ∙ ap (λ (b : Bool). cond b 1 0) made in
    omega (arith, zeroed, one)
