-- How requests compare, in tables and in sets of them: the code's order says whether they are the same.
use Rattle.std.proofs.Common.{◌≡◌, ℕ, ◌==◌, ◌&&◌, Bool, true, false, refl, sym, ◌∙◌, ap}
use Rattle.std.specs.Cmp.{tied_then, unsigned_ties}
use Rattle.std.specs.Cmp.Lexicographic.{slice_cmp}
use Rattle.std.specs.Ordering.{bool_cmp, is_eq, nat_cmp, ordering_then}
use Rattle.std.specs.declared.cmp.Ordering.{Ordering}
use Rattle.std.specs.declared.cmp.Ordering.TheVariants.{Less, Equal, Greater}
use Rattle.std.proofs.lemmas.Map.Text.{is_eq-slice_cmp}
use Rattle.elf_model.specs.Image.MapRecord.{OfLocal, OfName, TargetRow}
use Rattle.elf_model.specs.Link.Slots.{Request, same_kind, same_request, same_target}
use Rattle.elf_model.specs.declared.link_map.SlotKind.{SlotKind}
use Rattle.elf_model.specs.declared.link_map.SlotKind.TheVariants as slot
use Rattle.check_link.specs.Slots.{key_of, kind_view, request_order, request_view, target_view}
use Rattle.check_link.specs.declared.requests.Request as code
use Rattle.check_link.specs.declared.requests.Wanted.{Wanted}
use Rattle.check_link.specs.declared.requests.Wanted.TheVariants as wanted

-- how two pairs of numbers compare
abbrev pair_order : ℕ × ℕ → ℕ × ℕ → Ordering
pair_order a b = ordering_then (nat_cmp a.0 b.0) (nat_cmp a.1 b.1)

-- two compare equal where both numbers are
tie : (a b c d : ℕ) → is_eq (pair_order (a, b) (c, d)) ≡ (a == c && b == d)
tie a b c d =
    sym (tied_then (nat_cmp a c) (nat_cmp b d))
    ∙ sym (ap (λ (t : Bool). t && b == d) (unsigned_ties a c) ∙ ap (λ (t : Bool). is_eq (nat_cmp a c) && t) (unsigned_ties b d))

tie_then : (a b : Ordering) → is_eq (ordering_then a b) ≡ (is_eq a && is_eq b)
tie_then Less b = refl
tie_then Greater b = refl
tie_then Equal b = refl

tie_kinds : (a b : Bool) → is_eq (bool_cmp a b) ≡ same_kind (kind_view a) (kind_view b)
tie_kinds true true = refl
tie_kinds true false = refl
tie_kinds false true = refl
tie_kinds false false = refl

tie_requests : (a b : Bool) (t u : Wanted) → is_eq (request_order (record { thread = a; target = t }) (record { thread = b; target = u })) ≡ (same_kind (kind_view a) (kind_view b) && same_target (target_view t) (target_view u))
tie_requests a b (wanted.Name m) (wanted.Name n) =
    tie_then (bool_cmp a b) (slice_cmp nat_cmp m.now n.now)
    ∙ ap (λ t. t && is_eq (slice_cmp nat_cmp m.now n.now)) (tie_kinds a b)
    ∙ ap (λ t. same_kind (kind_view a) (kind_view b) && t) (is_eq-slice_cmp m.now n.now)
tie_requests a b (wanted.Name m) (wanted.Local p k) =
    tie_then (bool_cmp a b) Less ∙ ap (λ t. t && false) (tie_kinds a b)
tie_requests a b (wanted.Local o j) (wanted.Name n) =
    tie_then (bool_cmp a b) Greater ∙ ap (λ t. t && false) (tie_kinds a b)
tie_requests a b (wanted.Local o j) (wanted.Local p k) =
    tie_then (bool_cmp a b) (pair_order (o, j) (p, k))
    ∙ ap (λ t. t && is_eq (pair_order (o, j) (p, k))) (tie_kinds a b)
    ∙ ap (λ t. same_kind (kind_view a) (kind_view b) && t) (tie o j p k)

pub tied : (q r : code.Request) → is_eq (request_order q r) ≡ same_request (request_view q) (request_view r)
tied q r = tie_requests q.thread r.thread q.target r.target

pub view_of_key : (q : Request) → request_view (key_of q) ≡ q
view_of_key q = by q.kind q.target
  where
    by : (k : SlotKind) (t : TargetRow) → request_view (key_of (record { kind = k; target = t })) ≡ record { kind = k; target = t }
    by slot.Value (OfName n) = refl
    by slot.Value (OfLocal o j) = refl
    by slot.Thread (OfName n) = refl
    by slot.Thread (OfLocal o j) = refl

-- a request compares as the one that the definitions see
pub ordered_alike : (k : code.Request) → request_order (key_of (request_view k)) ≡ request_order k
ordered_alike k = λ i r. by k.thread k.target r.target r.thread i
  where
    by : (a : Bool) (t u : Wanted) (b : Bool) → request_order (key_of (request_view (record { thread = a; target = t }))) (record { thread = b; target = u }) ≡ request_order (record { thread = a; target = t }) (record { thread = b; target = u })
    by true (wanted.Name m) u b = refl
    by true (wanted.Local o j) u b = refl
    by false (wanted.Name m) u b = refl
    by false (wanted.Local o j) u b = refl
