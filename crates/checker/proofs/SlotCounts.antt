-- There is one slot for each request and no other: no two slots are for the same request, all are asked for, and each
-- request has a slot.
use Rattle.std.proofs.Common.{◌≡◌, ℕ, zero, suc, ◌+◌, ◌<◌, ◌≤◌, ◌||◌, Bool, true, false, not, cond, List, [], ◌∷◌, Option, None, Some, get_or, length, refl, sym, ◌∙◌, ap, subst, arith}
use Rattle.std.specs.Prelude.{All, count_by, is_some, map}
use Rattle.std.specs.List.{cons_option, filter_map, list_any, position_from}
use Rattle.std.specs.Option.{option_map_or}
use Rattle.std.proofs.lemmas.List.{get_or_default}
use Rattle.std.proofs.lemmas.Bool.{and_from, and_parts, false≢true}
use Rattle.std.proofs.lemmas.List.Elements.{All-cons, All-contains, All-head, All-nil, All-tail}
use Rattle.std.proofs.lemmas.List.Recursion.{is_count_by}
use Rattle.std.proofs.lemmas.List.Folds.{Any-from_list_any, list_any-from_Any}
use Rattle.elf_model.proofs.Listed.{All-from_contains}
use Rattle.elf_model.specs.Link.Loading.{LoadedObject}
use Rattle.elf_model.specs.Image.MapRecord.{OfLocal, SlotRow}
use Rattle.elf_model.specs.Link.Relocation.{Relocation, relocations}
use Rattle.elf_model.specs.Link.Slots.{Request, is_slot_of, request_of, requests, row_request, same_request}
use Rattle.elf_model.specs.declared.link_map.SlotKind.TheVariants as slot
use Rattle.checker.specs.Got.{HaveSlots}
use Rattle.check_relocs.specs.Needs.{AreNeeds, is_unserved}
use Rattle.check_link.specs.Slots.{are_distinct, are_fresh, line_of, none_seen}
use Rattle.check_link.proofs.SlotLines.{has_line, line_below}
use Rattle.check_relocs.specs.declared.needs.Needs.{Needs}
use Rattle.elf_model.proofs.SameRequests.{requests_equal, same_itself}

-- how many slots a request has
unfoldable pub count : Request → List SlotRow → ℕ
count q [] = 0
count q (row ∷ rows) = cond (is_slot_of q row) (1 + count q rows) (count q rows)

pub count_is : (q : Request) (rows : List SlotRow) → count q rows ≡ count_by (is_slot_of q) rows
unfolding count
count_is q rows = is_count_by (count q) (is_slot_of q) refl (λ row rest. refl) rows

abbrev any_slot : Request → List SlotRow → Bool
any_slot q rows = list_any (is_slot_of q) rows

not_false : (b : Bool) → not b ≡ true → b ≡ false
not_false true e = absurd (false≢true e)
not_false false e = refl

not_of : (b : Bool) → b ≡ false → not b ≡ true
not_of true e = absurd (false≢true (sym e))
not_of false e = refl

-- a slot is there where one is counted
pub any_counted : (q : Request) (rows : List SlotRow) → any_slot q rows ≡ true → 1 ≤ count q rows
unfolding count
any_counted q [] e = absurd (false≢true e)
any_counted q (row ∷ rows) e = by (is_slot_of q row) e (any_counted q rows)
  where
    by : (b : Bool) → (b || any_slot q rows) ≡ true → (any_slot q rows ≡ true → 1 ≤ count q rows) → 1 ≤ cond b (1 + count q rows) (count q rows)
    by true f rest = omega arith
    by false f rest = rest f

pub none_counted : (q : Request) (rows : List SlotRow) → any_slot q rows ≡ false → count q rows ≡ 0
unfolding count
none_counted q [] e = refl
none_counted q (row ∷ rows) e = by (is_slot_of q row) e (none_counted q rows)
  where
    by : (b : Bool) → (b || any_slot q rows) ≡ false → (any_slot q rows ≡ false → count q rows ≡ 0) → cond b (1 + count q rows) (count q rows) ≡ 0
    by true f rest = absurd (false≢true (sym f))
    by false f rest = rest f

counted_any : (q : Request) (rows : List SlotRow) → 1 ≤ count q rows → any_slot q rows ≡ true
counted_any q rows some = by (any_slot q rows) refl
  where
    by : (b : Bool) → any_slot q rows ≡ b → any_slot q rows ≡ true
    by true e = e
    by false e = let z = none_counted q rows e in absurd (omega (arith, z, some))

-- Fresh slots are those of which none is seen and no request has two.
abbrev few : (Request → Bool) → List SlotRow → Type 0
few seen rows = (q : Request) → count q rows + cond (seen q) 1 0 ≤ 1

abbrev with : (Request → Bool) → SlotRow → Request → Bool
with seen row q = seen q || same_request q (row_request row)

-- the first slot moved from the slots to what is seen
moved : (a b : Bool) (n : ℕ) → (a ≡ true → b ≡ false) → (n + cond (b || a) 1 0 ≤ 1) → cond a (1 + n) n + cond b 1 0 ≤ 1
moved true true n apart h = absurd (false≢true (sym (apart refl)))
moved true false n apart h = omega (arith, h)
moved false true n apart h = omega (arith, h)
moved false false n apart h = omega (arith, h)

moved_back : (a b : Bool) (n : ℕ) → cond a (1 + n) n + cond b 1 0 ≤ 1 → n + cond (b || a) 1 0 ≤ 1
moved_back true true n h = absurd (omega (arith, h))
moved_back true false n h = omega (arith, h)
moved_back false true n h = omega (arith, h)
moved_back false false n h = omega (arith, h)

fresh_few : (seen : Request → Bool) (rows : List SlotRow) → are_fresh seen (map row_request rows) ≡ true → few seen rows
unfolding count
fresh_few seen [] e q = by (seen q)
  where
    by : (b : Bool) → 0 + cond b 1 0 ≤ 1
    by true = omega arith
    by false = omega arith
fresh_few seen (row ∷ rows) e q =
    let parts = and_parts (not (seen (row_request row))) (are_fresh (with seen row) (map row_request rows)) e in
    moved (is_slot_of q row) (seen q) (count q rows)
    (λ same. ap seen (requests_equal q (row_request row) same) ∙ not_false (seen (row_request row)) parts.0)
    (fresh_few (with seen row) rows parts.1 q)

unseen : (a b : Bool) (n : ℕ) → a ≡ true → cond a (1 + n) n + cond b 1 0 ≤ 1 → b ≡ false
unseen true true n e h = absurd (omega (arith, h))
unseen true false n e h = refl
unseen false b n e h = absurd (false≢true e)

few_fresh : (seen : Request → Bool) (rows : List SlotRow) → few seen rows → are_fresh seen (map row_request rows) ≡ true
unfolding count
few_fresh seen [] h = refl
few_fresh seen (row ∷ rows) h =
    let r = row_request row in
    and_from (not (seen r)) (are_fresh (with seen row) (map row_request rows))
    (not_of (seen r) (unseen (is_slot_of r row) (seen r) (count r rows) (same_itself r) (h r)))
    (few_fresh (with seen row) rows (λ q. moved_back (is_slot_of q row) (seen q) (count q rows) (h q)))

module _ (rows : List SlotRow) (objects : List LoadedObject) where
  abbrev wanted : Request → Bool
  wanted q = list_any (same_request q) (requests objects)

  -- a request for which a slot is there is asked for, and the other way round
  asked_of : (q : Request) → All (λ row. wanted (row_request row) ≡ true) rows → any_slot q rows ≡ true → wanted q ≡ true
  asked_of q asked e =
      let a = Any-from_list_any (is_slot_of q) rows e in
      subst (λ (r : Request). wanted r ≡ true) (sym (requests_equal q (row_request a.1) a.4))
      (All-contains (λ (row : SlotRow). wanted (row_request row) ≡ true) rows a.1 asked (a.0, a.2, a.3))

  there_of : (q : Request) → All (λ q. any_slot q rows ≡ true) (requests objects) → wanted q ≡ true → any_slot q rows ≡ true
  there_of q has e =
      let a = Any-from_list_any (same_request q) (requests objects) e in
      subst (λ (r : Request). any_slot r rows ≡ true) (sym (requests_equal q a.1 a.4))
      (All-contains (λ (r : Request). any_slot r rows ≡ true) (requests objects) a.1 has (a.0, a.2, a.3))

  pub have_slots :
      are_distinct (map row_request rows) ≡ true → All (λ row. wanted (row_request row) ≡ true) rows →
      All (λ q. any_slot q rows ≡ true) (requests objects) → HaveSlots rows objects
  have_slots distinct asked has q = sym (count_is q rows) ∙ by (wanted q) (any_slot q rows) refl refl
    where
      by : (a b : Bool) → wanted q ≡ a → any_slot q rows ≡ b → count q rows ≡ cond a 1 0
      by true b e f =
          let low = any_counted q rows (there_of q has e) in
          let high = fresh_few none_seen rows distinct q in
          omega (arith, low, high)
      by false true e f = absurd (false≢true (sym e ∙ asked_of q asked f))
      by false false e f = none_counted q rows f

  pub slots_distinct : HaveSlots rows objects → are_distinct (map row_request rows) ≡ true
  slots_distinct have = few_fresh none_seen rows (λ q. by q (wanted q) (count_is q rows ∙ have q))
    where
      by : (q : Request) (b : Bool) → count q rows ≡ cond b 1 0 → count q rows + 0 ≤ 1
      by q true e = omega (arith, e)
      by q false e = omega (arith, e)

  pub slots_asked : HaveSlots rows objects → All (λ row. wanted (row_request row) ≡ true) rows
  slots_asked have =
      All-from_contains (λ (row : SlotRow). wanted (row_request row) ≡ true) rows
      (λ row c.
      let q = row_request row in
      let there = list_any-from_Any (is_slot_of q) rows (c.0, row, c.1, c.2, same_itself q) in
      by q (wanted q) (count_is q rows ∙ have q) (any_counted q rows there) refl)
    where
      by : (q : Request) (b : Bool) → count q rows ≡ cond b 1 0 → 1 ≤ count q rows → wanted q ≡ b → wanted q ≡ true
      by q true e some f = f
      by q false e some f = absurd (omega (arith, e, some))

  pub slots_there : HaveSlots rows objects → All (λ q. any_slot q rows ≡ true) (requests objects)
  slots_there have =
      All-from_contains (λ (q : Request). any_slot q rows ≡ true) (requests objects)
      (λ q c.
      let asked = list_any-from_Any (same_request q) (requests objects) (c.0, q, c.1, c.2, same_itself q) in
      let one = count_is q rows ∙ have q ∙ ap (λ (b : Bool). cond b 1 0) asked in
      counted_any q rows (omega (arith, one)))

-- one that passes is there
any_at : {X : Type 0} (p : X → Bool) (xs : List X) (i : ℕ) (d : X) → i < length xs → p (get_or xs i d) ≡ true → list_any p xs ≡ true
any_at p [] i d low e = absurd (omega (arith, low))
any_at p (x ∷ xs) zero d low e = ap (λ b. b || list_any p xs) e
any_at {X} p (x ∷ xs) (suc i) d low e = by (p x) (any_at p xs i d (omega (arith, low)) e)
  where
    by : (b : Bool) → list_any p xs ≡ true → (b || list_any p xs) ≡ true
    by true rest = refl
    by false rest = rest

-- a slot that is the only one for its request stands at the first position
pub only_first :
    (q : Request) (rows : List SlotRow) (k i : ℕ) (d : SlotRow) → count q rows ≤ 1 → i < length rows → is_slot_of q (get_or rows i d) ≡ true →
    position_from (is_slot_of q) k rows ≡ Some (k + i)
unfolding count
only_first q [] k i d one low e = absurd (omega (arith, low))
only_first q (row ∷ rows) k zero d one low e =
    ap (λ b. cond b (Some k) (position_from (is_slot_of q) (k + 1) rows)) e ∙ ap Some (omega arith)
only_first q (row ∷ rows) k (suc i) d one low e = by (is_slot_of q row) one (only_first q rows (k + 1) i d)
  where
    below : i < length rows
    below = omega (arith, low)

    by :
        (b : Bool) → cond b (1 + count q rows) (count q rows) ≤ 1 →
        (count q rows ≤ 1 → i < length rows → is_slot_of q (get_or rows i d) ≡ true → position_from (is_slot_of q) (k + 1) rows ≡ Some (k + 1 + i)) →
        cond b (Some k) (position_from (is_slot_of q) (k + 1) rows) ≡ Some (k + suc i)
    by true h rest = let some = any_counted q rows (any_at (is_slot_of q) rows i d below e) in absurd (omega (arith, h, some))
    by false h rest = rest h below e ∙ ap Some (omega arith)

-- no relocation asks for a slot that isn't there where each request has one
pub all_served : (rows : List SlotRow) (rs : List Relocation) → All (λ q. any_slot q rows ≡ true) (filter_map request_of rs) → list_any (is_unserved rows) rs ≡ false
all_served rows [] all = refl
all_served rows (r ∷ rs) all = by (request_of r) all (all_served rows rs)
  where
    P : Request → Type 0
    P q = any_slot q rows ≡ true

    by :
        (o : Option Request) → All P (cons_option o (filter_map request_of rs)) →
        (All P (filter_map request_of rs) → list_any (is_unserved rows) rs ≡ false) →
        (option_map_or (λ q. not (any_slot q rows)) o false || list_any (is_unserved rows) rs) ≡ false
    by (Some q) h rest =
        ap (λ b. not b || list_any (is_unserved rows) rs) (All-head P q (filter_map request_of rs) h) ∙ rest (All-tail P q (filter_map request_of rs) h)
    by None h rest = rest h

pub served_all : (rows : List SlotRow) (rs : List Relocation) → list_any (is_unserved rows) rs ≡ false → All (λ q. any_slot q rows ≡ true) (filter_map request_of rs)
served_all rows [] none = All-nil (λ (q : Request). any_slot q rows ≡ true)
served_all rows (r ∷ rs) none = by (request_of r) none (served_all rows rs)
  where
    P : Request → Type 0
    P q = any_slot q rows ≡ true

    served : (b c : Bool) → (not b || c) ≡ false → (b ≡ true) × (c ≡ false)
    served true c e = (refl, e)
    served false c e = absurd (false≢true (sym e))

    by :
        (o : Option Request) → (option_map_or (λ q. not (any_slot q rows)) o false || list_any (is_unserved rows) rs) ≡ false →
        (list_any (is_unserved rows) rs ≡ false → All P (filter_map request_of rs)) → All P (cons_option o (filter_map request_of rs))
    by (Some q) e rest =
        let both = served (any_slot q rows) (list_any (is_unserved rows) rs) e in
        All-cons P q (filter_map request_of rs) both.0 (rest both.1)
    by None e rest = rest e

-- The same of what relocations ask for, as the code has it: each first line of a slot has its mark, and no slot is missing.
module _ (needs : Needs) (objects : List LoadedObject) (rows : List SlotRow) (are : AreNeeds objects rows needs) where
  pub rows_asked : All (λ mark. mark ≡ true) needs.asked.items → All (λ row. wanted rows objects (row_request row) ≡ true) rows
  rows_asked set k d low =
      let q = row_request (get_or rows k d) in
      by q (line_of rows q) refl (any_at (is_slot_of q) rows k d low (same_itself q))
    where
      by : (q : Request) (o : Option ℕ) → line_of rows q ≡ o → any_slot q rows ≡ true → wanted rows objects q ≡ true
      by q (Some i) at some =
          let below = line_below rows q i at in
          let size = are.size in
          sym (are.asked q i at) ∙ set i false (omega (arith, below, size))
      by q None at some = absurd (false≢true (sym (ap (λ (o : Option ℕ). is_some o) at) ∙ (has_line rows q ∙ some)))

  pub marks_set : HaveSlots rows objects → All (λ mark. mark ≡ true) needs.asked.items
  marks_set have k d low =
      get_or_default needs.asked.items k d false low ∙ (are.asked q k first ∙ asked)
    where
      q : Request
      q = row_request (get_or rows k (record { address = 0; kind = slot.Value; target = OfLocal 0 0 }))

      below : k < length rows
      below = let size = are.size in omega (arith, low, size)

      asked : wanted rows objects q ≡ true
      asked = slots_asked rows objects have k (record { address = 0; kind = slot.Value; target = OfLocal 0 0 }) below

      one : count q rows ≡ 1
      one = count_is q rows ∙ (have q ∙ ap (λ (b : Bool). cond b 1 0) asked)

      first : line_of rows q ≡ Some k
      first =
          only_first q rows 0 k (record { address = 0; kind = slot.Value; target = OfLocal 0 0 }) (omega (arith, one)) below (same_itself q)
          ∙ ap Some (omega arith)

  pub all_there : needs.unserved ≡ false → All (λ q. any_slot q rows ≡ true) (requests objects)
  all_there none = served_all rows (relocations objects) (sym are.unserved ∙ none)

  pub none_missing : HaveSlots rows objects → needs.unserved ≡ false
  none_missing have = are.unserved ∙ all_served rows (relocations objects) (slots_there rows objects have)
