-- Decimal numbers: the reader of a number and the byte behind it takes just what is spelled so.
use Rattle.std.proofs.Common.{◌≡◌, ℕ, suc, ◌^◌, ◌<◌, ◌⊎◌, inl, inr, true, false, eqb, ltb, not, List, [], ◌∷◌, ◌++◌, Some, length, take, drop, get_or, refl, sym, ap, ◌∙◌, subst, one-add, arith}
use Rattle.std.specs.Prelude.{◌&&◌, ◌||◌, decimal}
use Rattle.std.specs.Char.{is_ascii_digit}
use Rattle.std.specs.Str.{all_ascii_digits}
use Rattle.std.specs.Str.Parse.{digits_value}
use Rattle.std.proofs.lemmas.Bool.{and_parts, cases_eq}
use Rattle.std.proofs.lemmas.Bool.Decides.{nat_tests}
use Rattle.std.proofs.lemmas.Fmt.{decimal-digits_value, digits_decimal, digits_value-decimal, decimal_nonempty, first_decimal, decimal_digit}
use Rattle.std.proofs.lemmas.List.{append_assoc, take-append-drop, take_at, drop_at}
use Rattle.std.proofs.lemmas.Option.{some_pair_parts}
use Rattle.elf_model.specs.Image.MapText.{number, last_number}
use Rattle.linkmap.specs.Reading.{before, is_canonical, digits_len, decimal_in, decimal_at, number_at, last_number_at}
use Rattle.elf_model.proofs.DecimalDigits.{own, prefix_digits}
use Rattle.linkmap.proofs.HexLaws.{Below}
use Rattle.linkmap.proofs.Parsers.{IsParser, before_takes}
use Rattle.linkmap.proofs.Tags.{tag_again, cond_some}

record IsCanonical (ds : List ℕ) : Type 0 where
  some : 0 < length ds
  first : get_or ds 0 0 ≡ 48 → length ds ≡ 1
  small : digits_value 10 ds < 2 ^ 64

parts : (n first value : ℕ) → (ltb 0 n && (not (eqb first 48) || eqb n 1) && ltb value (2 ^ 64)) ≡ true → (0 < n) × (first ≡ 48 → n ≡ 1) × (value < 2 ^ 64)
parts n first value e = (grind (arith, nat_tests), (λ zero. grind (arith, nat_tests)), grind (arith, nat_tests))

whole : (n first value : ℕ) → 0 < n → (first ≡ 48 → n ≡ 1) → value < 2 ^ 64 → (ltb 0 n && (not (eqb first 48) || eqb n 1) && ltb value (2 ^ 64)) ≡ true
whole n first value some zero small = grind (arith, nat_tests)

canonical_from : (ds : List ℕ) → is_canonical ds ≡ true → IsCanonical ds
canonical_from ds e =
    let p = parts (length ds) (get_or ds 0 0) (digits_value 10 ds) e in
    record { some = p.0; first = p.1; small = p.2 }

-- the digits of a number are spelled as they must be
first_is : (n : ℕ) → n < 2 ^ 64 → get_or (decimal n) 0 0 ≡ 48 → length (decimal n) ≡ 1
first_is n small zero = by (cases_eq n 0) where
  by : (n ≡ 0) ⊎ (n ≡ 0 → ⊥) → length (decimal n) ≡ 1
  by (inl e) = ap (λ k. length (decimal k)) e ∙ ap length (decimal_digit 0 (omega arith))
  by (inr never) = let above : 0 < n = omega (arith, never) in absurd (omega (arith, first_decimal n above small))

decimal_canonical : (n : ℕ) → n < 2 ^ 64 → is_canonical (decimal n) ≡ true
decimal_canonical n small =
    whole (length (decimal n)) (get_or (decimal n) 0 0) (digits_value 10 (decimal n)) (decimal_nonempty n small) (first_is n small)
    (omega (arith, digits_value-decimal own n small))

-- digits end before a byte that is none
digits_end : (ds rest : List ℕ) (e : ℕ) → all_ascii_digits ds ≡ true → is_ascii_digit e ≡ false → digits_len (ds ++ e ∷ rest) ≡ length ds
digits_end [] rest e h never = rw never refl
digits_end (c ∷ ds) rest e h never =
    let p = and_parts (is_ascii_digit c) (all_ascii_digits ds) h in
    rw (p.0, one-add) (ap suc (digits_end ds rest e p.1 never))

module _ (e : ℕ) (ends : is_ascii_digit e ≡ false) where
  abbrev ended : ℕ → List ℕ
  ended n = decimal n ++ e ∷ []

  taken : (ds rest bytes : List ℕ) (n : ℕ) (left : List ℕ) → ds ++ rest ≡ bytes → all_ascii_digits ds ≡ true → decimal_in ds rest ≡ Some (n, left) → (bytes ≡ decimal n ++ left) × (n < 2 ^ 64)
  taken ds rest bytes n left split digits h =
      let t = cond_some (is_canonical ds) (Some (digits_value 10 ds, rest)) (n, left) h in
      let c = canonical_from ds t.0 in
      let same = some_pair_parts (digits_value 10 ds) n rest left t.1 in
      let spelled = decimal-digits_value own ds digits c.some c.first c.small in
      let front : bytes ≡ decimal (digits_value 10 ds) ++ left = cc (split, spelled, same.1) in
      subst (λ (w : ℕ). (bytes ≡ decimal w ++ left) × (w < 2 ^ 64)) same.0 (front, c.small)

  decimal_takes : (bytes : List ℕ) (n : ℕ) (left : List ℕ) → decimal_at bytes ≡ Some (n, left) → (bytes ≡ decimal n ++ left) × (n < 2 ^ 64)
  unfolding decimal_at
  decimal_takes bytes n left h =
      let k = digits_len bytes in
      taken (take k bytes) (drop k bytes) bytes n left (take-append-drop k bytes) (prefix_digits bytes) h

  decimal_again : (n : ℕ) (rest : List ℕ) → n < 2 ^ 64 → decimal_at (decimal n ++ e ∷ rest) ≡ Some (n, e ∷ rest)
  unfolding decimal_at
  decimal_again n rest small =
      let len = digits_end (decimal n) rest e (digits_decimal own n small) ends in
      let front = take_at (decimal n) (e ∷ rest) (digits_len (decimal n ++ e ∷ rest)) (sym len) in
      let back = drop_at (decimal n) (e ∷ rest) (digits_len (decimal n ++ e ∷ rest)) (sym len) in
      rw (front, back, decimal_canonical n small, digits_value-decimal own n small) refl

  ended-IsParser : IsParser ended (Below (2 ^ 64)) (before (e ∷ []) decimal_at)
  ended-IsParser = record {
    takes = before_takes (e ∷ []) decimal (Below (2 ^ 64)) decimal_at decimal_takes;
    again = λ n left small.
        rw (append_assoc (decimal n) (e ∷ []) left, decimal_again n left small, tag_again (e ∷ []) left) refl;
  }

pub number-IsParser : IsParser number (Below (2 ^ 64)) number_at
unfolding number number_at
number-IsParser = ended-IsParser 32 refl

pub last_number-IsParser : IsParser last_number (Below (2 ^ 64)) last_number_at
unfolding last_number last_number_at
last_number-IsParser = ended-IsParser 10 refl
