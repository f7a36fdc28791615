-- The own slots are one to one with what relocations ask for: each request has one slot, and no other has.
use Rattle.std.proofs.Common.{◌≡◌, ℕ, ◌+◌, ◌||◌, Bool, true, false, not, cond, List, [], ◌∷◌, filter, refl, sym, ◌∙◌, ap, arith}
use Rattle.std.specs.Prelude.{count_by}
use Rattle.std.specs.List.{list_any}
use Rattle.elf_model.specs.Own.OwnLayout.{slot_at, slots_from}
use Rattle.elf_model.specs.Link.Slots.{Request, each_once, is_slot_of, same_request}
use Rattle.elf_model.proofs.RisingNames.{counted}
use Rattle.elf_model.proofs.SameRequests.{requests_equal}

-- another request isn't counted
other_counted : (q s : Request) (qs : List Request) → same_request q s ≡ false → count_by (same_request q) (s ∷ qs) ≡ count_by (same_request q) qs
other_counted q s qs e = counted (same_request q) s qs ∙ ap (λ b. cond b 1 0 + count_by (same_request q) qs) e ∙ omega arith

-- what is left of a list where one request is taken away: none that is the same, and as many of each other
abbrev others : Request → List Request → List Request
others r qs = filter (λ s. not (same_request r s)) qs

none_same : (q : Request) (qs : List Request) → count_by (same_request q) (others q qs) ≡ 0
none_same q [] = refl
none_same q (s ∷ qs) = by (same_request q s) refl (none_same q qs)
  where
    by :
        (b : Bool) → same_request q s ≡ b → count_by (same_request q) (others q qs) ≡ 0 →
        count_by (same_request q) (cond (not b) (s ∷ others q qs) (others q qs)) ≡ 0
    by true e rest = rest
    by false e rest =
        other_counted q s (others q qs) e ∙ rest

others_same :
    (q r : Request) → same_request q r ≡ false → (qs : List Request) →
    count_by (same_request q) (others r qs) ≡ count_by (same_request q) qs
others_same q r differ [] = refl
others_same q r differ (s ∷ qs) = by (same_request r s) refl (others_same q r differ qs)
  where
    by :
        (b : Bool) → same_request r s ≡ b → count_by (same_request q) (others r qs) ≡ count_by (same_request q) qs →
        count_by (same_request q) (cond (not b) (s ∷ others r qs) (others r qs)) ≡ count_by (same_request q) (s ∷ qs)
    by true e rest =
        let other : same_request q s ≡ false = ap (same_request q) (sym (requests_equal r s e)) ∙ differ in
        rest ∙ sym (other_counted q s qs other)
    by false e rest =
        counted (same_request q) s (others r qs)
        ∙ (ap (λ n. cond (same_request q s) 1 0 + n) rest ∙ sym (counted (same_request q) s qs))

-- each request is once among those that are there once
pub once_each : (q : Request) (rs : List Request) → count_by (same_request q) (each_once rs) ≡ cond (list_any (same_request q) rs) 1 0
once_each q [] = refl
once_each q (r ∷ rs) = by (same_request q r) refl (once_each q rs)
  where
    rest : List Request
    rest = others r (each_once rs)

    by :
        (b : Bool) → same_request q r ≡ b →
        count_by (same_request q) (each_once rs) ≡ cond (list_any (same_request q) rs) 1 0 →
        count_by (same_request q) (r ∷ rest) ≡ cond (same_request q r || list_any (same_request q) rs) 1 0
    by true e before =
        let none : count_by (same_request q) rest ≡ 0 =
        ap (λ (s : Request). count_by (same_request q) (others s (each_once rs))) (sym (requests_equal q r e)) ∙ none_same q (each_once rs) in
        counted (same_request q) r rest
        ∙ (ap (λ b. cond b 1 0 + count_by (same_request q) rest) e
        ∙ (ap (λ n. 1 + n) none ∙ sym (ap (λ b. cond (b || list_any (same_request q) rs) 1 0) e)))
    by false e before =
        other_counted q r rest e
        ∙ (others_same q r e (each_once rs)
        ∙ (before ∙ sym (ap (λ b. cond (b || list_any (same_request q) rs) 1 0) e)))

-- slots are of the requests that they are made of
pub slots_count_by : (q : Request) (a : ℕ) (qs : List Request) → count_by (is_slot_of q) (slots_from a qs) ≡ count_by (same_request q) qs
slots_count_by q a [] = refl
slots_count_by q a (r ∷ qs) =
    counted (is_slot_of q) (slot_at a r) (slots_from (a + 8) qs)
    ∙ (ap (λ n. cond (same_request q r) 1 0 + n) (slots_count_by q (a + 8) qs) ∙ sym (counted (same_request q) r qs))
