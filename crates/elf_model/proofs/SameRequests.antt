-- Requests for slots of the GOT are the same where they are equal.
use Rattle.std.proofs.Common.{◌≡◌, ◌==◌, true, refl, ◌∙◌, ap, subst}
use Rattle.std.proofs.lemmas.Bool.{and_from, and_parts, eq-eqb, eqb-true, false≢true}
use Rattle.std.proofs.lemmas.Slice.Eq.{bytes_eq-Decides}
use Rattle.elf_model.specs.Image.MapRecord.{OfLocal, OfName, TargetRow}
use Rattle.elf_model.specs.Link.Slots.{Request, same_kind, same_request, same_target}
use Rattle.elf_model.specs.declared.link_map.SlotKind.{SlotKind}
use Rattle.elf_model.specs.declared.link_map.SlotKind.TheVariants as slot
use Rattle.elf_model.proofs.SameOutput.{both_ways_equal}

kind_is : (a b : SlotKind) → same_kind a b ≡ true → a ≡ b
kind_is slot.Value slot.Value e = refl
kind_is slot.Value slot.Thread e = absurd (false≢true e)
kind_is slot.Thread slot.Value e = absurd (false≢true e)
kind_is slot.Thread slot.Thread e = refl

kind_same : (a : SlotKind) → same_kind a a ≡ true
kind_same slot.Value = refl
kind_same slot.Thread = refl

target_is : (a b : TargetRow) → same_target a b ≡ true → a ≡ b
target_is (OfName a) (OfName b) e = ap OfName ((bytes_eq-Decides a b).0 e)
target_is (OfName a) (OfLocal p k) e = absurd (false≢true e)
target_is (OfLocal o j) (OfName b) e = absurd (false≢true e)
target_is (OfLocal o j) (OfLocal p k) e =
    let both = and_parts (o == p) (j == k) e in
    ap (λ n. OfLocal n j) (eqb-true o p both.0) ∙ ap (OfLocal p) (eqb-true j k both.1)

target_same : (a : TargetRow) → same_target a a ≡ true
target_same (OfName a) = (bytes_eq-Decides a a).1 refl
target_same (OfLocal o j) = and_from (o == o) (j == j) (eq-eqb o o refl) (eq-eqb j j refl)

pub requests_equal : (q r : Request) → same_request q r ≡ true → q ≡ r
requests_equal q r e =
    let both = and_parts (same_kind q.kind r.kind) (same_target q.target r.target) e in
    let k = kind_is q.kind r.kind both.0 in
    let t = target_is q.target r.target both.1 in
    λ i. record { kind = k i; target = t i }

pub same_itself : (q : Request) → same_request q q ≡ true
same_itself q = and_from (same_kind q.kind q.kind) (same_target q.target q.target) (kind_same q.kind) (target_same q.target)

-- so they are the same either way round
turned : (q r : Request) → same_request q r ≡ true → same_request r q ≡ true
turned q r e = subst (λ (s : Request). same_request s q ≡ true) (requests_equal q r e) (same_itself q)

pub same_sym : (q r : Request) → same_request q r ≡ same_request r q
same_sym q r = both_ways_equal (same_request q r) (same_request r q) (turned q r) (turned r q)
