-- What relocations ask of the GOT, some relocations more.
use Rattle.std.proofs.Common.{◌≡◌, ℕ, zero, suc, ◌==◌, ◌<◌, ◌||◌, Bool, true, false, not, List, [], ◌∷◌, ◌++◌, Option, Some, None, length, refl, sym, ◌∙◌, ap, subst, arith}
use Rattle.std.specs.List.{cons_option, filter_map, list_any}
use Rattle.std.specs.Option.{is_none, option_and_then, option_map_or}
use Rattle.std.specs.Prelude.{is_some, option_map, replicate, set}
use Rattle.std.proofs.lemmas.Bool.{eq-eqb, eqb-true, false≢true}
use Rattle.std.proofs.lemmas.List.{get_or-set_other, get_or-set_same, length-set}
use Rattle.std.proofs.lemmas.Option.{none-some, same_Some}
use Rattle.std.proofs.lemmas.List.Folds.{list_any-append}
use Rattle.elf_model.specs.Link.Loading.{LoadedObject}
use Rattle.elf_model.specs.Link.Relocation.{Relocation, relocation_kind, relocations}
use Rattle.elf_model.specs.Image.MapRecord.{SlotRow}
use Rattle.elf_model.specs.Link.Slots.{Request, asks_for_got, is_slot_of, request_of, same_request, slot_kind_of, target_of}
use Rattle.elf_model.specs.declared.link_map.SlotKind.{SlotKind}
use Rattle.elf_model.proofs.SameRequests.{requests_equal, same_itself}
use Rattle.check_relocs.specs.KnownSlots.{IsNoted, mark_at}
use Rattle.check_relocs.specs.Needs.{AreNeeds, HaveGained, asks_for_slot, is_unserved}
use Rattle.check_link.specs.Chosen.{marked_by}
use Rattle.check_link.specs.Slots.{line_of}
use Rattle.check_link.proofs.SlotLines.{has_line, line_below, same_line}
use Rattle.check_relocs.specs.declared.needs.Needs.{Needs}

or_assoc : (a b c : Bool) → ((a || b) || c) ≡ (a || (b || c))
or_assoc true b c = refl
or_assoc false b c = refl

or_false : (b : Bool) → (b || false) ≡ b
or_false true = refl
or_false false = refl

any_more :
    (f : Relocation → Bool) (here rest : List Relocation) (old next all : Bool) → next ≡ (old || list_any f here) →
    (old || list_any f (here ++ rest)) ≡ all → (next || list_any f rest) ≡ all
any_more f here rest old next all grown whole =
    ap (λ b. b || list_any f rest) grown
    ∙ or_assoc old (list_any f here) (list_any f rest)
    ∙ ap (λ b. old || b) (sym (list_any-append f here rest))
    ∙ whole

-- needs so far and the relocations that are left are the first needs and all relocations
pub record Gaining (objects : List LoadedObject) (rows : List SlotRow) (left all : List Relocation) (old now : Needs) : Type 0 where
  pub got : (now.got || list_any (asks_for_got objects) left) ≡ (old.got || list_any (asks_for_got objects) all)
  pub unserved : (now.unserved || list_any (is_unserved rows) left) ≡ (old.unserved || list_any (is_unserved rows) all)
  pub asked :
      (q : Request) (i : ℕ) → line_of rows q ≡ Some i →
      (mark_at now.asked.items i || list_any (asks_for_slot q) left) ≡ (mark_at old.asked.items i || list_any (asks_for_slot q) all)
  pub size : length now.asked.items ≡ length old.asked.items

module _ (objects : List LoadedObject) (rows : List SlotRow) (all : List Relocation) (old : Needs) where
  gaining_same : (left rest : List Relocation) (now : Needs) → left ≡ rest → Gaining objects rows left all old now → Gaining objects rows rest all old now
  gaining_same left rest now same g = subst (λ (rs : List Relocation). Gaining objects rows rs all old now) same g

  pub gaining_more :
      (left here rest : List Relocation) (now next : Needs) → left ≡ here ++ rest → HaveGained objects rows here now next →
      Gaining objects rows left all old now → Gaining objects rows rest all old next
  gaining_more left here rest now next parts gained g =
      let h = gaining_same left (here ++ rest) now parts g in
      record {
        got = any_more (asks_for_got objects) here rest now.got next.got _ gained.got h.got;
        unserved = any_more (is_unserved rows) here rest now.unserved next.unserved _ gained.unserved h.unserved;
        asked = λ q i at. any_more (asks_for_slot q) here rest (mark_at now.asked.items i) (mark_at next.asked.items i) _ (gained.asked q i at) (h.asked q i at);
        size = gained.size ∙ h.size;
      }

  pub gaining_all : (left : List Relocation) → left ≡ all → Gaining objects rows left all old old
  gaining_all left same = gaining_same all left old (sym same) (record { got = refl; unserved = refl; asked = λ q i at. refl; size = refl })

  pub gaining_end : (left : List Relocation) (now : Needs) → left ≡ [] → Gaining objects rows left all old now → HaveGained objects rows all old now
  gaining_end left now none g =
      let h = gaining_same left [] now none g in
      record {
        got = sym (or_false now.got) ∙ h.got;
        unserved = sym (or_false now.unserved) ∙ h.unserved;
        asked = λ q i at. sym (or_false (mark_at now.asked.items i)) ∙ h.asked q i at;
        size = h.size;
      }

pub any_requests : (q : Request) (rs : List Relocation) → list_any (asks_for_slot q) rs ≡ list_any (same_request q) (filter_map request_of rs)
any_requests q [] = refl
any_requests q (r ∷ rs) = by (request_of r) (any_requests q rs)
  where
    by :
        (o : Option Request) → list_any (asks_for_slot q) rs ≡ list_any (same_request q) (filter_map request_of rs) →
        (option_map_or (same_request q) o false || list_any (asks_for_slot q) rs) ≡ list_any (same_request q) (cons_option o (filter_map request_of rs))
    by (Some s) e = ap (λ b. same_request q s || b) e
    by None e = e

-- needs that have gained all relocations, from none
pub gained_all :
    (objects : List LoadedObject) (rows : List SlotRow) (old now : Needs) → old.got ≡ false → old.unserved ≡ false → ((i : ℕ) → mark_at old.asked.items i ≡ false) →
    length old.asked.items ≡ length rows → HaveGained objects rows (relocations objects) old now → AreNeeds objects rows now
gained_all objects rows old now got unserved marks long g = record {
  got = g.got ∙ ap (λ b. b || list_any (asks_for_got objects) (relocations objects)) got;
  unserved = g.unserved ∙ ap (λ b. b || list_any (is_unserved rows) (relocations objects)) unserved;
  asked = λ q i at.
      g.asked q i at
      ∙ (ap (λ b. b || list_any (asks_for_slot q) (relocations objects)) (marks i) ∙ any_requests q (relocations objects));
  size = g.size ∙ long;
}

-- there are no marks at first
pub no_marks : (n i : ℕ) → mark_at (replicate n false) i ≡ false
no_marks zero i = refl
no_marks (suc n) zero = refl
no_marks (suc n) (suc i) = no_marks n i

-- what one relocation asks for
pub one_gained :
    (objects : List LoadedObject) (rows : List SlotRow) (r : Relocation) (old new : Needs) → new.got ≡ (old.got || asks_for_got objects r) →
    new.unserved ≡ (old.unserved || is_unserved rows r) →
    ((q : Request) (i : ℕ) → line_of rows q ≡ Some i → mark_at new.asked.items i ≡ (mark_at old.asked.items i || asks_for_slot q r)) →
    length new.asked.items ≡ length old.asked.items → HaveGained objects rows (r ∷ []) old new
one_gained objects rows r old new got unserved asked size = record {
  got = got ∙ ap (λ b. old.got || b) (sym (or_false (asks_for_got objects r)));
  unserved = unserved ∙ ap (λ b. old.unserved || b) (sym (or_false (is_unserved rows r)));
  asked = λ q i at. asked q i at ∙ ap (λ b. mark_at old.asked.items i || b) (sym (or_false (asks_for_slot q r)));
  size = size;
}

or_true : (b : Bool) → (b || true) ≡ true
or_true true = refl
or_true false = refl

not_same : (q r : Request) → (q ≡ r → ⊥) → same_request q r ≡ false
not_same q r apart = by (same_request q r) refl
  where
    by : (b : Bool) → same_request q r ≡ b → b ≡ false
    by false e = refl
    by true e = absurd (apart (requests_equal q r e))

-- One request more, whose line has a position or isn't there.
module _ (rows : List SlotRow) (marks : List Bool) (r : Request) (long : length marks ≡ length rows) where
  marked : (o : Option ℕ) → o ≡ line_of rows r → (q : Request) (i : ℕ) → line_of rows q ≡ Some i → mark_at (marked_by marks o) i ≡ (mark_at marks i || same_request q r)
  marked None is q i at =
      sym (or_false (mark_at marks i))
      ∙ ap (λ b. mark_at marks i || b) (sym (not_same q r (λ same. none-some i (is ∙ (ap (line_of rows) (sym same) ∙ at)))))
  marked (Some p) is q i at = by (i == p) refl
    where
      low : p < length marks
      low = let below = line_below rows r p (sym is) in omega (arith, below, long)

      by : (b : Bool) → (i == p) ≡ b → mark_at (set marks p true) i ≡ (mark_at marks i || same_request q r)
      by true e =
          let i_is = eqb-true i p e in
          let q_is = same_line rows q r p (at ∙ ap Some i_is) (sym is) in
          ap (mark_at (set marks p true)) i_is
          ∙ (get_or-set_same marks p true false low
          ∙ sym (ap (λ b. mark_at marks i || b) (ap (λ (s : Request). same_request s r) q_is ∙ same_itself r) ∙ or_true (mark_at marks i)))
      by false e =
          get_or-set_other marks p i true false (λ same. false≢true (sym e ∙ eq-eqb i p same))
          ∙ (sym (or_false (mark_at marks i))
          ∙ ap (λ b. mark_at marks i || b)
          (sym (not_same q r (λ same. false≢true (sym e ∙ eq-eqb i p (same_Some i p (sym at ∙ (ap (line_of rows) same ∙ sym is))))))))

  pub marked_more :
      (new : List Bool) (o : Option ℕ) → o ≡ line_of rows r → new ≡ marked_by marks o → (q : Request) (i : ℕ) → line_of rows q ≡ Some i →
      mark_at new i ≡ (mark_at marks i || same_request q r)
  marked_more new o is put q i at = ap (λ (l : List Bool). mark_at l i) put ∙ marked o is q i at

pub marked_long : (marks new : List Bool) (o : Option ℕ) → new ≡ marked_by marks o → length new ≡ length marks
marked_long marks new None put = ap (λ (l : List Bool). length l) put
marked_long marks new (Some p) put = ap (λ (l : List Bool). length l) put ∙ length-set marks p true

unserved_is : (rows : List SlotRow) (r : Request) (o : Option ℕ) → o ≡ line_of rows r → is_none o ≡ not (list_any (is_slot_of r) rows)
unserved_is rows r o is = by o ∙ ap not (ap (λ (p : Option ℕ). is_some p) is ∙ has_line rows r)
  where
    by : (p : Option ℕ) → is_none p ≡ not (is_some p)
    by None = refl
    by (Some x) = refl

pub unserved_more :
    (rows : List SlotRow) (r : Request) (o : Option ℕ) (old new : Bool) → o ≡ line_of rows r → new ≡ (old || is_none o) → new ≡ (old || not (list_any (is_slot_of r) rows))
unserved_more rows r o old new is e = e ∙ ap (λ b. old || b) (unserved_is rows r o is)

-- a request that is noted already changes nothing
module _ (rows : List SlotRow) (unserved : Bool) (marks : List Bool) (r : Request) (noted : IsNoted rows unserved marks r) where
  pub noted_marks : (q : Request) (i : ℕ) → line_of rows q ≡ Some i → mark_at marks i ≡ (mark_at marks i || same_request q r)
  noted_marks q i at = by (mark_at marks i) (same_request q r) refl refl
    where
      by : (a b : Bool) → mark_at marks i ≡ a → same_request q r ≡ b → a ≡ (a || b)
      by true b e f = refl
      by false false e f = refl
      by false true e f =
          absurd (false≢true (sym e ∙ noted.there i (ap (line_of rows) (sym (requests_equal q r f)) ∙ at)))

  pub noted_unserved : unserved ≡ (unserved || not (list_any (is_slot_of r) rows))
  noted_unserved = by (line_of rows r) refl
    where
      by : (o : Option ℕ) → line_of rows r ≡ o → unserved ≡ (unserved || not (list_any (is_slot_of r) rows))
      by None e = noted.none e ∙ sym (ap (λ b. b || not (list_any (is_slot_of r) rows)) (noted.none e))
      by (Some i) e =
          sym (or_false unserved)
          ∙ ap (λ b. unserved || b) (sym (ap not (sym (has_line rows r) ∙ ap (λ (o : Option ℕ). is_some o) e)))

-- a request that is noted stays so, and one that came is
module _ (rows : List SlotRow) (u v : Bool) (marks new : List Bool) (r : Request) (told : v ≡ (u || not (list_any (is_slot_of r) rows)))
    (grown : (q : Request) (i : ℕ) → line_of rows q ≡ Some i → mark_at new i ≡ (mark_at marks i || same_request q r)) where
  pub still_noted : (q : Request) → IsNoted rows u marks q → IsNoted rows v new q
  still_noted q is = record {
    there = λ i at. grown q i at ∙ ap (λ b. b || same_request q r) (is.there i at);
    none = λ at. told ∙ ap (λ b. b || not (list_any (is_slot_of r) rows)) (is.none at);
  }

  pub noted_itself : IsNoted rows v new r
  noted_itself = record {
    there = λ i at. grown r i at ∙ (ap (λ b. mark_at marks i || b) (same_itself r) ∙ or_true (mark_at marks i));
    none = λ at. told ∙ (ap (λ b. u || b) (ap not (sym (has_line rows r) ∙ ap (λ (o : Option ℕ). is_some o) at)) ∙ or_true u);
  }

-- what a relocation asks for whose kind asks for a slot
pub of_kind :
    (q : Request) (r : Relocation) (k : SlotKind) → option_and_then (λ d. slot_kind_of d.formula) (relocation_kind r) ≡ Some k →
    asks_for_slot q r ≡ same_request q (record { kind = k; target = target_of r.symbol })
of_kind q r k asks =
    ap (λ (o : Option SlotKind). option_map_or (same_request q) (option_map (λ kind. record { kind = kind; target = target_of r.symbol }) o) false) asks

pub of_no_kind :
    (q : Request) (r : Relocation) → option_and_then (λ d. slot_kind_of d.formula) (relocation_kind r) ≡ None → asks_for_slot q r ≡ false
of_no_kind q r none =
    ap (λ (o : Option SlotKind). option_map_or (same_request q) (option_map (λ kind. record { kind = kind; target = target_of r.symbol }) o) false) none

-- so it is with slots that aren't there
pub unserved_of_kind :
    (rows : List SlotRow) (r : Relocation) (k : SlotKind) → option_and_then (λ d. slot_kind_of d.formula) (relocation_kind r) ≡ Some k →
    is_unserved rows r ≡ not (list_any (is_slot_of (record { kind = k; target = target_of r.symbol })) rows)
unserved_of_kind rows r k asks =
    ap (λ (o : Option SlotKind). option_map_or (λ q. not (list_any (is_slot_of q) rows)) (option_map (λ kind. record { kind = kind; target = target_of r.symbol }) o) false) asks

pub unserved_of_no_kind :
    (rows : List SlotRow) (r : Relocation) → option_and_then (λ d. slot_kind_of d.formula) (relocation_kind r) ≡ None → is_unserved rows r ≡ false
unserved_of_no_kind rows r none =
    ap (λ (o : Option SlotKind). option_map_or (λ q. not (list_any (is_slot_of q) rows)) (option_map (λ kind. record { kind = kind; target = target_of r.symbol }) o) false) none
