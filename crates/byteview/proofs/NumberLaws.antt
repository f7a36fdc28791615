-- The laws of numbers in bytes that the crates above use.
use Rattle.std.proofs.Common.{◌≡◌, ℕ, zero, suc, ◌+◌, ◌*◌, ◌/◌, ◌%◌, ◌^◌, ◌<◌, ◌≤◌, List, [], ◌∷◌, ◌++◌, length, take, slice_index, refl, ap, sym, ◌∙◌, arith}
use Rattle.std.proofs.Math.Nat.{div-div-eq-div-mul, div-one, pow-suc}
use Rattle.std.proofs.Math.Seq.{drop-append-add}
use Rattle.std.specs.Int.{byte_at, bytes_low_first}
use Rattle.byteview.specs.Numbers.{le, le_at, le_bytes, part}

-- each of the numbers is a byte
abbrev pub AreBytes : List ℕ → Type 0
AreBytes bytes = (k : ℕ) → slice_index bytes k < 256

pub length-le_bytes : (n x : ℕ) → length (le_bytes n x) ≡ n
unfolding le_bytes
length-le_bytes zero x = refl
length-le_bytes (suc n) x = let e = length-le_bytes n (x / 256) in omega (arith, e)

-- the lowest bytes of a number are its spelling in so many bytes
pub take-le_bytes : (w n x : ℕ) → w ≤ n → take w (le_bytes n x) ≡ le_bytes w x
unfolding le_bytes
take-le_bytes zero n x low = refl
take-le_bytes (suc w) zero x low = absurd (omega (arith, low))
take-le_bytes (suc w) (suc n) x low = ap (λ (bs : List ℕ). x % 256 ∷ bs) (take-le_bytes w n (x / 256) (omega (arith, low)))

-- a spelling is read as the number that it spells
pub le-le_bytes : (n x : ℕ) → x < 256 ^ n → le (le_bytes n x) ≡ x
unfolding le le_bytes
le-le_bytes zero x fits = omega (arith, fits)
le-le_bytes (suc n) x fits =
    let rest : x / 256 < 256 ^ n = omega (arith, fits, pow-suc 256 n) in
    let e = le-le_bytes n (x / 256) rest in
    omega (arith, e)

-- n bytes spell a number below 256 ^ n
pub le-below : (bytes : List ℕ) → AreBytes bytes → le bytes < 256 ^ length bytes
unfolding le
le-below [] are = omega arith
le-below (b ∷ bytes) are =
    let first = are 0 in
    let rest = le-below bytes (λ k. are (suc k)) in
    omega (arith, first, rest, pow-suc 256 (length bytes))

-- the number in two runs, one after the other
pub le-append : (xs ys : List ℕ) → le (xs ++ ys) ≡ le xs + 256 ^ length xs * le ys
unfolding le
le-append [] ys = omega arith
le-append (x ∷ xs) ys = let e = le-append xs ys in rw (e, pow-suc 256 (length xs)) (omega arith)

-- bytes are the spelling of the number that they are read as
pub le_bytes-le : (bytes : List ℕ) → AreBytes bytes → le_bytes (length bytes) (le bytes) ≡ bytes
unfolding le le_bytes
le_bytes-le [] are = refl
le_bytes-le (b ∷ bytes) are =
    let first : b < 256 = are 0 in
    let low : (b + 256 * le bytes) % 256 ≡ b = omega (arith, first) in
    let high : (b + 256 * le bytes) / 256 ≡ le bytes = omega (arith, first) in
    let rest = le_bytes-le bytes (λ k. are (suc k)) in
    rw (low, high, rest) refl

-- the number in one byte is that byte
pub le_at-one : (bytes : List ℕ) (at : ℕ) → le_at 1 bytes at ≡ slice_index bytes at
unfolding le
le_at-one [] zero = refl
le_at-one [] (suc at) = refl
le_at-one (b ∷ bytes) zero = omega arith
le_at-one (b ∷ bytes) (suc at) = le_at-one bytes at

-- the library's byte i of a number
byte_at_is : (i x : ℕ) → byte_at i x ≡ x / 256 ^ i % 256
byte_at_is zero x = ap (λ (y : ℕ). y % 256) (sym (div-one x))
byte_at_is (suc i) x = refl

-- the library's bytes of a number from byte i on, least significant first
low_first_from : (i n x : ℕ) → bytes_low_first i n x ≡ le_bytes n (x / 256 ^ i)
unfolding le_bytes
low_first_from i zero x = refl
low_first_from i (suc n) x =
    let here : byte_at i x ≡ x / 256 ^ i % 256 = byte_at_is i x in
    let next : x / 256 ^ suc i ≡ x / 256 ^ i / 256 = ap (λ (p : ℕ). x / p) (pow-suc 256 i) ∙ sym (div-div-eq-div-mul x (256 ^ i) 256) in
    let rest = low_first_from (suc i) n x in
    rw (here, rest, next) refl

-- the library's bytes of a number, least significant first, are its spelling
pub low_first_is : (n x : ℕ) → bytes_low_first 0 n x ≡ le_bytes n x
low_first_is n x = low_first_from 0 n x ∙ ap (le_bytes n) (div-one x)

-- a byte is the spelling of itself
pub le_bytes-one : (x : ℕ) → x < 256 → le_bytes 1 x ≡ x ∷ []
unfolding le_bytes
le_bytes-one x fits = let e : x % 256 ≡ x = omega (arith, fits) in rw e refl

-- a part of the bytes behind others
pub part-behind : (xs ys : List ℕ) (at k n : ℕ) → at ≡ length xs + k → part (xs ++ ys) at n ≡ part ys k n
part-behind xs ys at k n e = rw e (ap (take n) (drop-append-add xs ys k))
