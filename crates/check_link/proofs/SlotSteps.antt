-- One slot line more in a table of slots, and one request more in an ordered table.
use Rattle.std.proofs.Common.{◌≡◌, ℕ, ◌+◌, ◌<◌, ◌≤◌, ◌&&◌, ◌||◌, Bool, true, false, not, cond, List, ◌∷◌, Option, Some, None, drop, get_or, length, refl, sym, ◌∙◌, ap}
use Rattle.std.specs.Prelude.{is_some, map}
use Rattle.std.specs.BTreeMap.{BTreeMap, Updates, get, get_by}
use Rattle.std.specs.declared.cmp.Ordering.{Ordering}
use Rattle.std.specs.List.{position_from}
use Rattle.std.specs.Option.{option_or}
use Rattle.std.specs.Ordering.{is_eq}
use Rattle.std.proofs.lemmas.List.{drop_all}
use Rattle.elf_model.specs.Image.MapRecord.{SlotRow}
use Rattle.linkmap.specs.Borrowed.{slot_row}
use Rattle.elf_model.specs.Link.Slots.{Request, is_slot_of, row_request, same_request}
use Rattle.linkmap.specs.declared.borrowed.BorrowedSlot.{BorrowedSlot}
use Rattle.elf_model.proofs.Rests.{rest_at}
use Rattle.check_link.specs.Slots.{are_fresh, has_in, in_table, key_of, place_in, request_order, request_view}
use Rattle.check_link.specs.declared.slot_positions.SlotPositions.{SlotPositions}
use Rattle.check_link.specs.declared.requests.Request as code
use Rattle.elf_model.proofs.SameRequests.{requests_equal, same_sym}
use Rattle.check_link.proofs.SameRequest.{ordered_alike, tied, view_of_key}

-- what a table has for a request, as the code has it
pub get_is : (table : BTreeMap code.Request ℕ) (k : code.Request) → in_table table (request_view k) ≡ get request_order table k
get_is table k = ap (λ (order : code.Request → Ordering). get_by order table) (ordered_alike k)

pub tied_key : (k : code.Request) (q : Request) → is_eq (request_order k (key_of q)) ≡ same_request q (request_view k)
tied_key k q = tied k (key_of q) ∙ ap (λ (r : Request). same_request (request_view k) r) (view_of_key q) ∙ same_sym (request_view k) q

-- what a table has for each request once an address came in for a new one
put : (old new : Option ℕ) (same : Bool) (at : ℕ) → new ≡ cond same (Some at) old → (same ≡ true → old ≡ None) → new ≡ option_or old (cond same (Some at) None)
put old new true at e absent = e ∙ ap (λ (o : Option ℕ). option_or o (Some at)) (sym (absent refl))
put None new false at e absent = e
put (Some x) new false at e absent = e

none_of : (o : Option ℕ) → is_some o ≡ false → o ≡ None
none_of None e = refl
none_of (Some x) e = absurd (cc)

pub slot_added :
    (old new : BTreeMap code.Request ℕ) (k : code.Request) (at : ℕ) (r : Request) → request_view k ≡ r →
    is_some (get request_order old k) ≡ false → Updates request_order old new k (Some at) → (q : Request) →
    in_table new q ≡ option_or (in_table old q) (cond (same_request q r) (Some at) None)
slot_added old new k at r is lacks updates q =
    put (in_table old q) (in_table new q) (same_request q r) at
    (updates.0 (key_of q) ∙ ap (λ b. cond b (Some at) (in_table old q)) (tied_key k q ∙ ap (same_request q) is))
    (λ same.
    ap (in_table old) (requests_equal q r same ∙ sym is) ∙ get_is old k ∙ none_of (get request_order old k) lacks)

-- a request that is there already changes nothing
kept : (old : Option ℕ) (same : Bool) (at : ℕ) → (same ≡ true → is_some old ≡ true) → old ≡ option_or old (cond same (Some at) None)
kept (Some x) same at there = refl
kept None false at there = refl
kept None true at there = absurd (let e = there refl in cc)

pub slot_there :
    (old : BTreeMap code.Request ℕ) (k : code.Request) (at : ℕ) (r : Request) → request_view k ≡ r →
    is_some (get request_order old k) ≡ true → (q : Request) →
    in_table old q ≡ option_or (in_table old q) (cond (same_request q r) (Some at) None)
slot_there old k at r is has q =
    kept (in_table old q) (same_request q r) at
    (λ same. ap (λ (s : Request). is_some (in_table old s)) (requests_equal q r same ∙ sym is) ∙ ap (λ (o : Option ℕ). is_some o) (get_is old k) ∙ has)

-- The table with one line more.
first_more :
    (p : SlotRow → Bool) (row : SlotRow) (rest : List SlotRow) (i : ℕ) (old new whole : Option ℕ) →
    new ≡ option_or old (cond (p row) (Some i) None) → option_or old (position_from p i (row ∷ rest)) ≡ whole →
    option_or new (position_from p (i + 1) rest) ≡ whole
first_more p row rest i (Some x) new whole grown all = ap (λ (o : Option ℕ). option_or o (position_from p (i + 1) rest)) grown ∙ all
first_more p row rest i None new whole grown all = by (p row) grown all
  where
    by :
        (b : Bool) → new ≡ cond b (Some i) None → cond b (Some i) (position_from p (i + 1) rest) ≡ whole →
        option_or new (position_from p (i + 1) rest) ≡ whole
    by true g a = ap (λ (o : Option ℕ). option_or o (position_from p (i + 1) rest)) g ∙ a
    by false g a = ap (λ (o : Option ℕ). option_or o (position_from p (i + 1) rest)) g ∙ a

and_assoc : (a b c : Bool) → ((a && b) && c) ≡ (a && (b && c))
and_assoc true b c = refl
and_assoc false b c = refl

pub some_or : (o : Option ℕ) (b : Bool) (at : ℕ) → is_some (option_or o (cond b (Some at) None)) ≡ (is_some o || b)
some_or None true at = refl
some_or None false at = refl
some_or (Some x) b at = refl

abbrev pub rows_from : List BorrowedSlot → ℕ → List SlotRow
rows_from lines i = map slot_row (drop i lines)

module _ (lines : List BorrowedSlot) (i : ℕ) (line : BorrowedSlot) (within : i < length lines) (read : line ≡ get_or lines i line) where
  pub rows_more : rows_from lines i ≡ slot_row line ∷ rows_from lines (i + 1)
  rows_more = ap (map slot_row) (rest_at lines i line within) ∙ ap (λ (l : BorrowedSlot). slot_row l ∷ rows_from lines (i + 1)) (sym read)

  module _ (names : List (List ℕ)) (old new : SlotPositions) (grown : (q : Request) → place_in names new q ≡ option_or (place_in names old q) (cond (is_slot_of q (slot_row line)) (Some i) None)) where
    pub index_more :
        (q : Request) (whole : Option ℕ) → option_or (place_in names old q) (position_from (is_slot_of q) i (rows_from lines i)) ≡ whole →
        option_or (place_in names new q) (position_from (is_slot_of q) (i + 1) (rows_from lines (i + 1))) ≡ whole
    index_more q whole all =
        first_more (is_slot_of q) (slot_row line) (rows_from lines (i + 1)) i (place_in names old q) (place_in names new q) whole (grown q)
        (sym (ap (λ (rs : List SlotRow). option_or (place_in names old q) (position_from (is_slot_of q) i rs)) rows_more) ∙ all)

    has_more : has_in names new ≡ (λ q. has_in names old q || same_request q (row_request (slot_row line)))
    has_more = λ j q. (ap (λ (o : Option ℕ). is_some o) (grown q) ∙ some_or (place_in names old q) (same_request q (row_request (slot_row line))) i) j

    pub distinct_more :
        (distinct fresh whole : Bool) → fresh ≡ not (has_in names old (row_request (slot_row line))) →
        (distinct && are_fresh (has_in names old) (map row_request (rows_from lines i))) ≡ whole →
        ((distinct && fresh) && are_fresh (has_in names new) (map row_request (rows_from lines (i + 1)))) ≡ whole
    distinct_more distinct fresh whole is all =
        let rest : List Request = map row_request (rows_from lines (i + 1)) in
        ap (λ b. (distinct && b) && are_fresh (has_in names new) rest) is
        ∙ ap (λ (seen : Request → Bool). (distinct && not (has_in names old (row_request (slot_row line)))) && are_fresh seen rest) has_more
        ∙ and_assoc distinct (not (has_in names old (row_request (slot_row line)))) (are_fresh (λ q. has_in names old q || same_request q (row_request (slot_row line))) rest)
        ∙ sym (ap (λ (rs : List SlotRow). distinct && are_fresh (has_in names old) (map row_request rs)) rows_more)
        ∙ all

pub or_none : (o : Option ℕ) → option_or o None ≡ o
or_none None = refl
or_none (Some x) = refl

and_true : (b : Bool) → (b && true) ≡ b
and_true true = refl
and_true false = refl

module _ (lines : List BorrowedSlot) (i : ℕ) (behind : length lines ≤ i) where
  pub index_end : (o whole : Option ℕ) (p : SlotRow → Bool) → option_or o (position_from p i (rows_from lines i)) ≡ whole → o ≡ whole
  index_end o whole p all =
      sym (or_none o) ∙ sym (ap (λ (ls : List BorrowedSlot). option_or o (position_from p i (map slot_row ls))) (drop_all i lines behind)) ∙ all

  pub distinct_end : (b whole : Bool) (seen : Request → Bool) → (b && are_fresh seen (map row_request (rows_from lines i))) ≡ whole → b ≡ whole
  distinct_end b whole seen all =
      sym (and_true b) ∙ sym (ap (λ (ls : List BorrowedSlot). b && are_fresh seen (map row_request (map slot_row ls))) (drop_all i lines behind)) ∙ all
