-- The ordinary members of every list of bytes stand by offset.
use Rattle.std.proofs.Common.{ℕ, zero, suc, ◌<◌, ◌≤◌, Bool, true, false, cond, List, [], ◌∷◌, length, arith}
use Rattle.std.specs.Prelude.{All, AllPairs, filter, nat_lt}
use Rattle.std.proofs.lemmas.List.Elements.{All-cons, All-nil, All-weaker}
use Rattle.std.proofs.lemmas.List.Kept.{AllPairs-cons, AllPairs-filter}
use Rattle.elf_model.specs.Inputs.ArchiveFile.{StoredMember, header_offsets, header_offsets_from, is_ordinary, is_readable, member_of, members, next_header, stored_member, stored_members}
use Rattle.elf_model.proofs.Pairs.{AllPairs-map, AllPairs-nil}
use Rattle.ar_index.specs.Reading.{AreAscending}

-- headers from an offset on are at this offset or above it, and each is below all later ones
record AreRising (at : ℕ) (offsets : List ℕ) : Type 0 where
  above : All (λ o. at ≤ o) offsets
  pairs : AllPairs (λ o p. o < p) offsets

none_rising : (at : ℕ) → AreRising at []
none_rising at = record { above = All-nil (λ o. at ≤ o); pairs = AllPairs-nil (λ o p. o < p) }

more_rising : (at next : ℕ) (offsets : List ℕ) → at < next → AreRising next offsets → AreRising at (at ∷ offsets)
more_rising at next offsets below rest = record {
  above = All-cons (λ o. at ≤ o) at offsets (omega arith) (All-weaker (λ o. next ≤ o) (λ o. at ≤ o) (λ o from. omega (arith, from, below)) offsets rest.above);
  pairs = AllPairs-cons (λ o p. o < p) at offsets (All-weaker (λ o. next ≤ o) (λ o. at < o) (λ o from. omega (arith, from, below)) offsets rest.above) rest.pairs;
}

-- one header, and those behind it where it can be read
rise_from : (at next : ℕ) (offsets : List ℕ) (inside readable : Bool) → at < next → AreRising next offsets
    → AreRising at (cond inside (at ∷ cond readable offsets []) [])
rise_from at next offsets true true below rest = more_rising at next offsets below rest
rise_from at next offsets true false below rest = more_rising at next [] below (none_rising next)
rise_from at next offsets false readable below rest = none_rising at

offsets_rise : (n : ℕ) (bytes : List ℕ) (at : ℕ) → AreRising at (header_offsets_from n bytes at)
offsets_rise zero bytes at = none_rising at
offsets_rise (suc n) bytes at =
    rise_from at (next_header bytes at) (header_offsets_from n bytes (next_header bytes at)) (nat_lt at (length bytes)) (is_readable bytes at) (omega arith)
    (offsets_rise n bytes (next_header bytes at))

pub ascending : (bytes : List ℕ) → AreAscending (members bytes)
ascending bytes =
    let offsets = AllPairs-filter (λ o p. o < p) (is_readable bytes) (header_offsets bytes) (offsets_rise (length bytes) bytes 8).pairs in
    let stored : AllPairs (λ (p q : StoredMember). p.offset < q.offset) (stored_members bytes) =
    AllPairs-map (λ p q. p.offset < q.offset) (stored_member bytes) (filter (is_readable bytes) (header_offsets bytes)) offsets
    in
    AllPairs-map (λ p q. p.offset < q.offset) member_of (filter is_ordinary (stored_members bytes))
    (AllPairs-filter (λ (p q : StoredMember). p.offset < q.offset) is_ordinary (stored_members bytes) stored)
