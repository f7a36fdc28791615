-- Hexadecimal digits: the readers of 1, 2, 4, 8 and 16 digits take just their spellings.
use Rattle.std.proofs.Common.{◌≡◌, ℕ, ◌+◌, ◌*◌, ◌-◌, ◌/◌, ◌%◌, ◌^◌, ◌<◌, ◌≤◌, Bool, true, false, cond, leb, List, [], ◌∷◌, ◌++◌, Option, Some, None, refl, ap, subst, arith, codes}
use Rattle.std.specs.Prelude.{◌&&◌}
use Rattle.std.proofs.lemmas.Bool.{leb-true, and_parts}
use Rattle.std.proofs.lemmas.Bool.Decides.{nat_tests}
use Rattle.std.proofs.lemmas.List.{append_assoc}
use Rattle.std.proofs.lemmas.Nat.{div-mul-add, mod-mul-add, div_below, mod_below}
use Rattle.std.proofs.Math.Nat.{div-add-mod', mul-le-mul_left}
use Rattle.std.proofs.lemmas.Option.{none-some, some_pair_parts}
use Rattle.elf_model.specs.Image.MapText.{hex_digit, pair, quad, word, hex, address}
use Rattle.linkmap.specs.Reading.{Reads, chained, digit_at, halves, pair_at, quad_at, word_at, hex_at, address_at}
use Rattle.linkmap.proofs.Parsers.{IsParser, chained_some, before-IsParser}

abbrev digit_text : ℕ → List ℕ
digit_text d = hex_digit d ∷ []

abbrev pub Below : ℕ → ℕ → Type 0
Below m n = n < m

-- a byte from a first to a last one
ranged : (low high b : ℕ) → (leb low b && leb b high) ≡ true → (low ≤ b) × (b ≤ high)
ranged low high b t =
    let p = and_parts (leb low b) (leb b high) t in
    (leb-true low b p.0, leb-true b high p.1)

digit_from : (b d : ℕ) (rest left : List ℕ) → digit_at (b ∷ rest) ≡ Some (d, left) → (b ≡ hex_digit d) × (d < 16) × (rest ≡ left)
digit_from b d rest left e = by (leb 48 b && leb b 57) refl e where
  letter : (v : Bool) → (leb 97 b && leb b 102) ≡ v → cond {A = Option (ℕ × List ℕ)} v (Some (b - 87, rest)) None ≡ Some (d, left) → (b ≡ hex_digit d) × (d < 16) × (rest ≡ left)
  letter true t h =
      let within = ranged 97 102 b t in
      let same = some_pair_parts (b - 87) d rest left h in
      let is = same.0 in
      (grind (arith, nat_tests), omega arith, same.1)
  letter false t h = absurd (none-some (d, left) h)

  by : (v : Bool) → (leb 48 b && leb b 57) ≡ v → cond {A = Option (ℕ × List ℕ)} v (Some (b - 48, rest)) (cond (leb 97 b && leb b 102) (Some (b - 87, rest)) None) ≡ Some (d, left) → (b ≡ hex_digit d) × (d < 16) × (rest ≡ left)
  by true t h =
      let within = ranged 48 57 b t in
      let same = some_pair_parts (b - 48) d rest left h in
      let is = same.0 in
      (grind (arith, nat_tests), omega arith, same.1)
  by false t h = letter (leb 97 b && leb b 102) refl h

digit_takes : (bytes : List ℕ) (d : ℕ) (left : List ℕ) → digit_at bytes ≡ Some (d, left) → (bytes ≡ digit_text d ++ left) × (d < 16)
digit_takes [] d left e = absurd (none-some (d, left) e)
digit_takes (b ∷ rest) d left e =
    let t = digit_from b d rest left e in
    let byte = t.0 in
    let same = t.2 in
    (cc, t.1)

digit_again : (d : ℕ) (rest : List ℕ) → d < 16 → digit_at (digit_text d ++ rest) ≡ Some (d, rest)
digit_again d rest small = grind (arith, nat_tests)

digit-IsParser : IsParser digit_text (Below 16) digit_at
digit-IsParser = record { takes = digit_takes; again = digit_again }

module _ (m : ℕ) (half : ℕ → List ℕ) (read : Reads ℕ) where
  abbrev two_halves : ℕ → List ℕ
  two_halves n = half (n / m) ++ half (n % m)

  halves_take : IsParser half (Below m) read → (bytes : List ℕ) (n : ℕ) (left : List ℕ) → halves m read bytes ≡ Some (n, left) → (bytes ≡ two_halves n ++ left) × (n < m * m)
  halves_take p bytes n left e =
      let c = chained_some (read bytes) (λ high rest. chained (read rest) (λ low last. Some (high * m + low, last))) n left e in
      let d = chained_some (read c.rest) (λ low last. Some (c.value * m + low, last)) n left c.second in
      let same = some_pair_parts (c.value * m + d.value) n d.rest left d.second in
      let front = p.takes bytes c.value c.rest c.first in
      let back = p.takes c.rest d.value d.rest d.first in
      let joined = append_assoc (half c.value) (half d.value) left in
      let upper = ap half (div-mul-add c.value m d.value back.1) in
      let lower = ap half (mod-mul-add c.value m d.value back.1) in
      let whole : bytes ≡ two_halves (c.value * m + d.value) ++ left = cc (joined, front.0, back.0, same.1, upper, lower) in
      subst (λ (w : ℕ). (bytes ≡ two_halves w ++ left) × (w < m * m)) same.0 (whole, omega (arith, mul-le-mul_left m front.1, back.1))

  halves_again : IsParser half (Below m) read → 0 < m → (n : ℕ) (rest : List ℕ) → n < m * m → halves m read (two_halves n ++ rest) ≡ Some (n, rest)
  halves_again p some n rest small =
      rw (append_assoc (half (n / m)) (half (n % m)) rest, p.again (n / m) (half (n % m) ++ rest) (div_below n m m some small), p.again (n % m) rest (mod_below n m some))
      (ap (λ (w : ℕ). Some (w, rest)) (div-add-mod' n m))

  halves-IsParser : IsParser half (Below m) read → 0 < m → IsParser two_halves (Below (m * m)) (halves m read)
  halves-IsParser p some = record { takes = halves_take p; again = halves_again p some }

pub pair-IsParser : IsParser pair (Below 256) pair_at
unfolding pair pair_at
pair-IsParser = halves-IsParser 16 digit_text digit_at digit-IsParser (omega arith)

quad-IsParser : IsParser quad (Below (2 ^ 16)) quad_at
unfolding quad quad_at
quad-IsParser = halves-IsParser 256 pair pair_at pair-IsParser (omega arith)

word-IsParser : IsParser word (Below (2 ^ 32)) word_at
unfolding word word_at
word-IsParser = halves-IsParser 65536 quad quad_at quad-IsParser (omega arith)

hex-IsParser : IsParser hex (Below (2 ^ 64)) hex_at
unfolding hex hex_at
hex-IsParser = halves-IsParser 4294967296 word word_at word-IsParser (omega arith)

pub address-IsParser : IsParser address (Below (2 ^ 64)) address_at
unfolding address address_at
address-IsParser = before-IsParser (codes " ") hex (Below (2 ^ 64)) hex_at hex-IsParser
