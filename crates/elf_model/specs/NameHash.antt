-- What the hasher of names computes. Tables rest on none of it but that it is a function of the name and the seed.
use Rattle.std.specs.Prelude.{ℕ, zero, suc, ◌+◌, ◌*◌, ◌/◌, ◌%◌, ◌-◌, ◌^◌, ◌&&◌, List, [], ◌∷◌, cond, drop, length, nat_le, bit_and, bit_xor}
use Rattle.byteview.specs.Numbers.{le_at}
use Rattle.elf_model.specs.declared.name_hash.NameHasher.{NameHasher}

-- the two halves of a product of 128 bits, joined
unfoldable pub mixed : ℕ → ℕ → ℕ
mixed a b = bit_xor (bit_and (a * b) (2 ^ 64 - 1)) (a * b / 2 ^ 64)

-- bytes as a number of 64 bits, least significant byte first
unfoldable pub tail_word : List ℕ → ℕ
tail_word [] = 0
tail_word (b ∷ bytes) = (b + 256 * tail_word bytes) % 2 ^ 64

-- the eight bytes at an offset as such a number, fewer where the bytes end before
abbrev pub word : List ℕ → ℕ → ℕ
word bytes at = cond (nat_le 8 (length bytes) && nat_le at (length bytes - 8)) (le_at 8 bytes at) (tail_word (drop at bytes))

-- the state after the first n blocks of 16 bytes
unfoldable pub blocks : ℕ → List ℕ → ℕ → ℕ → ℕ
blocks secret bytes state zero = state
blocks secret bytes state (suc n) =
    mixed (bit_xor (blocks secret bytes state n) (word bytes (16 * n))) (bit_xor secret (word bytes (16 * n + 8)))

abbrev pub write : NameHasher → List ℕ → NameHasher
write s bytes = record s { state = blocks s.secret bytes ((s.state + length bytes) % 2 ^ 64) (length bytes / 16 + 1) }
