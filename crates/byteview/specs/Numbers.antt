-- Numbers in bytes, parts of a byte list and NUL-ended texts: the words in which every format is defined.
use Rattle.std.specs.Prelude.{ℕ, ℤ, zero, suc, Bool, ◌+◌, ◌*◌, ◌/◌, ◌%◌, ◌<◌, ◌≤◌, ◌==◌, List, [], ◌∷◌, take, drop, length, reverse}
use Rattle.std.specs.Int.{w64, cast_signed}
use Rattle.std.specs.List.{position_or_len}

-- the number that the bytes spell, least significant byte first (System V gABI 4, "Data Representation")
unfoldable pub le : List ℕ → ℕ
le [] = 0
le (b ∷ bytes) = b + 256 * le bytes

-- the number that the bytes spell, most significant byte first (ar(5), the symbol index)
abbrev pub be : List ℕ → ℕ
be bytes = le (reverse bytes)

-- the part of the bytes that begins at an offset; shorter where the bytes end before
abbrev pub part : List ℕ → ℕ → ℕ → List ℕ
part bytes offset len = take len (drop offset bytes)

-- the part lies inside the bytes
abbrev pub IsInside : List ℕ → ℕ → ℕ → Type 0
IsInside bytes offset len = offset + len ≤ length bytes

-- the number of n bytes at an offset, in either order
abbrev pub le_at : ℕ → List ℕ → ℕ → ℕ
le_at n bytes at = le (part bytes at n)

abbrev pub be_at : ℕ → List ℕ → ℕ → ℕ
be_at n bytes at = be (part bytes at n)

-- the 64-bit two's complement number at an offset, least significant byte first
abbrev pub signed_at : List ℕ → ℕ → ℤ
signed_at bytes at = cast_signed w64 (le_at 8 bytes at)

-- the bytes of a text that begins at an offset, without the NUL that ends it
abbrev pub is_nul : ℕ → Bool
is_nul b = b == 0

abbrev pub text : List ℕ → ℕ → List ℕ
text bytes at = take (position_or_len is_nul (drop at bytes)) (drop at bytes)

-- a NUL ends the text that begins at the offset
abbrev pub HasText : List ℕ → ℕ → Type 0
HasText bytes at = position_or_len is_nul (drop at bytes) < length (drop at bytes)

-- the n bytes that spell a number below 256 ^ n, least significant byte first
unfoldable pub le_bytes : ℕ → ℕ → List ℕ
le_bytes zero x = []
le_bytes (suc n) x = x % 256 ∷ le_bytes n (x / 256)
