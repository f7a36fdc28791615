-- Decimal digits: the front of bytes that has them, and the number that they spell.
use Rattle.std.proofs.Common.{◌≡◌, ℕ, ◌+◌, ◌*◌, ◌-◌, ◌^◌, ◌<◌, ◌≤◌, Bool, true, false, cond, List, [], ◌∷◌, length, take, get_or, refl, ap, ◌∙◌, one-add, arith}
use Rattle.std.specs.Char.{is_ascii_digit, digit_value}
use Rattle.std.specs.List.{prefix_len}
use Rattle.std.specs.Str.{all_ascii_digits}
use Rattle.std.specs.Str.Parse.{digits_value}
use Rattle.std.proofs.lemmas.Bool.{and_from}
use Rattle.std.proofs.lemmas.Bool.Decides.{nat_tests}
use Rattle.std.proofs.lemmas.Int.Digits.{digits_value_more}
use Rattle.std.proofs.lemmas.Str.Parse.{digits_value_short, IsNumeralModel, numerals_by_value, tells_all_ascii_digits, digit_at, digits_value-take-le}

all_digits_by : (c : ℕ) (cs : List ℕ) (b : Bool) → is_ascii_digit c ≡ b → all_ascii_digits (take (prefix_len is_ascii_digit cs) cs) ≡ true → all_ascii_digits (take (cond b (1 + prefix_len is_ascii_digit cs) 0) (c ∷ cs)) ≡ true
all_digits_by c cs true e h = rw one-add (and_from (is_ascii_digit c) (all_ascii_digits (take (prefix_len is_ascii_digit cs) cs)) e h)
all_digits_by c cs false e h = refl

pub prefix_digits : (bytes : List ℕ) → all_ascii_digits (take (prefix_len is_ascii_digit bytes) bytes) ≡ true
prefix_digits [] = refl
prefix_digits (c ∷ cs) = all_digits_by c cs (is_ascii_digit c) refl (prefix_digits cs)

pub own : IsNumeralModel (λ ds. all_ascii_digits ds ≡ true) (digits_value 10)
own = numerals_by_value (λ ds. all_ascii_digits ds ≡ true) tells_all_ascii_digits

digit_value_is : (c : ℕ) → 48 ≤ c → c ≤ 57 → digit_value c ≡ c - 48
digit_value_is c low high = grind (arith, nat_tests)

pub record Step (ds : List ℕ) (i : ℕ) : Type 0 where
  pub low : 48 ≤ get_or ds i 0
  pub more : digits_value 10 (take (i + 1) ds) ≡ digits_value 10 (take i ds) * 10 + (get_or ds i 0 - 48)
  pub within : digits_value 10 (take (i + 1) ds) ≤ digits_value 10 ds

pub digit_step : (ds : List ℕ) (i : ℕ) → all_ascii_digits ds ≡ true → i < length ds → Step ds i
digit_step ds i h l =
    let d = digit_at ds i (own.to ds h) l in
    record {
      low = d.0;
      more = digits_value_more 10 ds i l ∙ ap (λ v. digits_value 10 (take i ds) * 10 + v) (digit_value_is (get_or ds i 0) d.0 d.1);
      within = digits_value-take-le 10 ds (i + 1) (omega arith);
    }

pub digits_small : (ds : List ℕ) → all_ascii_digits ds ≡ true → length ds ≤ 16 → digits_value 10 ds < 10 ^ 16
digits_small ds digits few = digits_value_short own ds 16 digits few
