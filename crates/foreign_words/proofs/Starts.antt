-- What stands before and behind the first equals sign of a text.
use Rattle.std.proofs.Common.{◌≡◌, ◌≢◌, ◌∙◌, ◌<◌, ◌+◌, ◌==◌, ◌++◌, ◌∷◌, [], ℕ, List, ap, arith, drop, get_or, length, refl, sym, take}
use Rattle.std.specs.Option.{option_map}
use Rattle.std.proofs.lemmas.List.{append_assoc, drop_at, get_or_append_left, get_or_at, length_push, take_at}
use Rattle.std.proofs.lemmas.List.Sums.{position_or_len_is}
use Rattle.std.proofs.lemmas.Bool.Decides.{nat_tests}
use Rattle.std.proofs.lemmas.Grind.{common_steps}
use Rattle.judge_model.specs.Words.{equals_at, hexadecimal, section_at, section_start}

first_equals : (xs ys : List ℕ) → ((i : ℕ) → i < length xs → get_or xs i 0 ≢ 61) → equals_at (xs ++ 61 ∷ ys) ≡ length xs
first_equals xs ys lacks =
    position_or_len_is (λ x. x == 61) (xs ++ 61 ∷ ys) (length xs) 0 (grind (arith, common_steps))
    (λ k low. let ne = lacks k low in rw get_or_append_left (grind (arith, nat_tests)))
    (λ _. rw (get_or_at xs 61 ys 0 (length xs) refl) refl)

pub start_at :
    (v xs ys : List ℕ) → v ≡ xs ++ 61 ∷ ys → ((i : ℕ) → i < length xs → get_or xs i 0 ≢ 61) →
    section_start v ≡ option_map (section_at xs) (hexadecimal ys)
start_at v xs ys is lacks =
    let at : equals_at v ≡ length xs = ap equals_at is ∙ first_equals xs ys lacks in
    let front : take (equals_at v) v ≡ xs =
    ap (λ (n : ℕ). take n v) at ∙ (ap (take (length xs)) is ∙ take_at xs (61 ∷ ys) (length xs) refl) in
    let one : 1 + equals_at v ≡ length xs + 1 = omega (arith, at) in
    let behind : drop (1 + equals_at v) v ≡ ys =
    ap (λ (n : ℕ). drop n v) one
    ∙ (ap (drop (length xs + 1)) (is ∙ sym (append_assoc xs (61 ∷ []) ys)) ∙ drop_at (xs ++ 61 ∷ []) ys (length xs + 1) (length_push xs 61)) in
    ap (λ (n : List ℕ). option_map (section_at n) (hexadecimal (drop (1 + equals_at v) v))) front
    ∙ ap (λ (d : List ℕ). option_map (section_at xs) (hexadecimal d)) behind
