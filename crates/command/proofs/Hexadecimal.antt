-- Hexadecimal digits: what `from_str_radix` reads of them.
use Rattle.std.proofs.Common.{◌≡◌, ℕ, ◌^◌, ◌<◌, ◌≤◌, Bool, nat_le, true, ◌&&◌, get_or, ap, ◌∙◌, subst, false, List, [], ◌∷◌, length, Some, Result, Ok, Err, refl, arith, tests}
use Rattle.std.specs.Char.{is_ascii_hexdigit, digit_value}
use Rattle.std.specs.List.{list_all}
use Rattle.std.specs.Result.{OkIff, result_ok}
use Rattle.std.specs.Str.Parse.{AllDigits, IsNumeral, ParsesUnsigned, digits_value, without_leading_plus}
use Rattle.std.proofs.Math.Nat.{pow-le-pow_right}
use Rattle.std.proofs.lemmas.Int.Digits.{digits_value-lt}
use Rattle.std.proofs.lemmas.Str.Parse.{without_leading_plus_none}
use Rattle.elf_model.specs.Inputs.Command.{is_hexadecimal, number_of}

-- the value of a hexadecimal digit is below 16
digit : (b : ℕ) → is_ascii_hexdigit b ≡ true → digit_value b < 16
digit b h = grind (arith, tests)

no_plus : (b : ℕ) → is_ascii_hexdigit b ≡ true → b ≡ 43 → ⊥
no_plus b h e = grind (arith, tests)

both : (a b : Bool) → (a && b) ≡ true → (a ≡ true) × (b ≡ true)
both true b h = (refl, h)
both false b h = absurd cc

all_digits : (ds : List ℕ) → list_all is_ascii_hexdigit ds ≡ true → AllDigits 16 ds
all_digits [] h = tt
all_digits (b ∷ ds) h =
    let e = both (is_ascii_hexdigit b) (list_all is_ascii_hexdigit ds) h in
    (digit b e.0, all_digits ds e.1)

first : (ds : List ℕ) → list_all is_ascii_hexdigit ds ≡ true → get_or ds 0 0 ≡ 43 → ⊥
first [] h e = absurd (omega arith)
first (b ∷ ds) h e = no_plus b (both (is_ascii_hexdigit b) (list_all is_ascii_hexdigit ds) h).0 e

below : (ds : List ℕ) → list_all is_ascii_hexdigit ds ≡ true → length ds ≤ 16 → digits_value 16 ds < 2 ^ 64
below ds h few =
    let wide : 16 ^ length ds ≤ 16 ^ 16 = pow-le-pow_right (omega arith) few in
    omega (arith, digits_value-lt 16 ds (all_digits ds h), wide)

reads : {E : Type 0} (ds : List ℕ) (r : Result ℕ E) → list_all is_ascii_hexdigit ds ≡ true → 1 ≤ length ds → length ds ≤ 16 → OkIff r (IsNumeral 16 ds × (digits_value 16 ds < 2 ^ 64)) (digits_value 16 ds) → result_ok r ≡ Some (digits_value 16 ds)
reads ds (Ok n) h some few p = ap Some p.1
reads ds (Err e) h some few p = absurd (p ((omega arith, all_digits ds h), below ds h few))

pub number_is : {E : Type 0} (ds : List ℕ) (r : Result ℕ E) → is_hexadecimal ds ≡ true → ParsesUnsigned 64 16 ds r → result_ok r ≡ number_of ds
number_is {E} ds r h p =
    let front = both (nat_le 1 (length ds) && nat_le (length ds) 16) (list_all is_ascii_hexdigit ds) h in
    let lengths = both (nat_le 1 (length ds)) (nat_le (length ds) 16) front.0 in
    let some : 1 ≤ length ds = grind (arith, tests, lengths.0) in
    let few : length ds ≤ 16 = grind (arith, tests, lengths.1) in
    let same : without_leading_plus ds ≡ ds = without_leading_plus_none ds (first ds front.1) in
    let plain : OkIff r (IsNumeral 16 ds × (digits_value 16 ds < 2 ^ 64)) (digits_value 16 ds) =
    subst (λ (w : List ℕ). OkIff r (IsNumeral 16 w × (digits_value 16 w < 2 ^ 64)) (digits_value 16 w)) same p in
    reads ds r front.1 some few plain ∙ rw h refl
