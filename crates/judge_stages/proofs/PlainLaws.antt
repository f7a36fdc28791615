-- The sections that linkers don't edit: those that have a place line, and all that they neither merge nor join nor make one list of.
-- And those that they merged, and those of call frames in their list.
use Rattle.std.proofs.Common.{◌≡◌, ◌∙◌, ℕ, ◌==◌, ◌||◌, ◌&&◌, Bool, true, false, cond, not, List, [], ◌∷◌, ap, map, refl}
use Rattle.std.specs.Prelude.{All, filter}
use Rattle.std.proofs.lemmas.List.Elements.{All-head, All-tail}
use Rattle.elf_model.proofs.Listed.{All-from_contains}
use Rattle.elf_model.specs.Image.MapRecord.{PlaceRow}
use Rattle.elf_model.specs.Link.Pieces.{Piece}
use Rattle.judge_model.specs.Certificates.{has_place, is_left_out}
use Rattle.judge_model.specs.Links.{ForeignLink, framed_of, is_framed, is_frames, is_merged, is_mergeable, is_plain, is_property, merged_of, pieces_of, plain_pieces}
use Rattle.judge_model.specs.Frames.{has_own_frames, has_own_place, is_mixed}
use Rattle.std.specs.List.{list_any}
use Rattle.judge_stages.specs.Stages.{has_own_by, is_framed_by, is_merged_by, is_plain_by, key_of}

placed_by_keys : (rows : List PlaceRow) (o s : ℕ) → is_left_out (map key_of rows) o s ≡ has_place rows o s
placed_by_keys [] o s = refl
placed_by_keys (r ∷ rows) o s = ap (λ (b : Bool). (r.object == o && r.section == s) || b) (placed_by_keys rows o s)

plain_alike : (l : ForeignLink) (p : Piece) → is_plain_by (map key_of l.certificate.places) p ≡ is_plain l p
plain_alike l p =
    ap (λ (b : Bool). b || not (is_mergeable p || (is_frames p || is_property p))) (placed_by_keys l.certificate.places p.object p.section)

filter_alike : {X : Type 0} (p q : X → Bool) (xs : List X) → All (λ x. p x ≡ q x) xs → filter p xs ≡ filter q xs
filter_alike p q [] same = refl
filter_alike {X} p q (x ∷ xs) same =
    let rest = filter_alike p q xs (All-tail (λ (y : X). p y ≡ q y) x xs same) in
    λ j. cond (All-head (λ (y : X). p y ≡ q y) x xs same j) (x ∷ rest j) (rest j)

pub plain_found : (l : ForeignLink) → filter (is_plain_by (map key_of l.certificate.places)) (pieces_of l) ≡ plain_pieces l
plain_found l =
    filter_alike (is_plain_by (map key_of l.certificate.places)) (is_plain l) (pieces_of l)
    (All-from_contains (λ (p : Piece). is_plain_by (map key_of l.certificate.places) p ≡ is_plain l p) (pieces_of l) (λ p there. plain_alike l p))

pub merged_found : (l : ForeignLink) → filter (is_merged_by (map key_of l.certificate.places)) (pieces_of l) ≡ merged_of l
merged_found l =
    filter_alike (is_merged_by (map key_of l.certificate.places)) (is_merged l) (pieces_of l)
    (All-from_contains (λ (p : Piece). is_merged_by (map key_of l.certificate.places) p ≡ is_merged l p) (pieces_of l)
    (λ p there. ap (λ (b : Bool). is_mergeable p && not b) (placed_by_keys l.certificate.places p.object p.section)))

pub framed_found : (l : ForeignLink) → filter (is_framed_by (map key_of l.certificate.places)) (pieces_of l) ≡ framed_of l
framed_found l =
    filter_alike (is_framed_by (map key_of l.certificate.places)) (is_framed l) (pieces_of l)
    (All-from_contains (λ (p : Piece). is_framed_by (map key_of l.certificate.places) p ≡ is_framed l p) (pieces_of l)
    (λ p there. ap (λ (b : Bool). is_frames p && not b) (placed_by_keys l.certificate.places p.object p.section)))

any_alike : {X : Type 0} (p q : X → Bool) (xs : List X) → ((x : X) → p x ≡ q x) → list_any p xs ≡ list_any q xs
any_alike p q [] same = refl
any_alike {X} p q (x ∷ xs) same =
    let rest = any_alike p q xs same in
    λ j. same x j || rest j

pub own_found : (l : ForeignLink) → list_any (has_own_by (map key_of l.certificate.places)) (pieces_of l) ≡ has_own_frames l
own_found l =
    any_alike (has_own_by (map key_of l.certificate.places)) (has_own_place l) (pieces_of l)
    (λ p. ap (λ (b : Bool). is_frames p && b) (placed_by_keys l.certificate.places p.object p.section))

pub mixed_found : (l : ForeignLink) →
    (list_any (has_own_by (map key_of l.certificate.places)) (pieces_of l) && list_any (is_framed_by (map key_of l.certificate.places)) (pieces_of l))
    ≡ is_mixed l
mixed_found l =
    let own = own_found l in
    let listed = any_alike (is_framed_by (map key_of l.certificate.places)) (is_framed l) (pieces_of l)
    (λ p. ap (λ (b : Bool). is_frames p && not b) (placed_by_keys l.certificate.places p.object p.section)) in
    λ j. own j && listed j
