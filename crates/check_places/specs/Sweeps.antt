-- Words on things for this crate's sweeps.
use Rattle.std.specs.Prelude.{◌≡◌, ℕ, ◌+◌, ◌-◌, ◌^◌, ◌<◌, ◌≤◌, ◌⊎◌, List, [], ◌∷◌, All, max, slice_index}
use Rattle.elf_model.specs.Link.Placement.{Covers}
use Rattle.elf_model.specs.declared.thing.Thing.{Thing}

-- a thing's end is an address of 64 bits
abbrev pub EndFits : Thing → Type 0
EndFits t = t.at + t.size < 2 ^ 64

-- all nonempty things begin at or above an address
abbrev pub Above : ℕ → List Thing → Type 0
Above x ts = All (λ t. 0 < t.size → x ≤ t.at) ts

-- a thing lies partly below the greatest end so far; or it follows it, and this is the greatest end behind it
abbrev pub Overlaps : ℕ → Thing → Type 0
Overlaps end t = (0 < t.size) × (t.at < end)

abbrev pub Follows : ℕ → Thing → ℕ → Type 0
Follows end t next = ((0 < t.size) × (end ≤ t.at) × (next ≡ t.at + t.size)) ⊎ ((t.size ≡ 0) × (next ≡ end))

-- each address from one up to another that is below the top has the fill, in bytes that begin at start
abbrev pub GapIs : List ℕ → ℕ → ℕ → ℕ → ℕ → ℕ → Type 0
GapIs bytes start top fill from to = (a : ℕ) → from ≤ a → a < to → a < top → slice_index bytes (a - start) ≡ fill

-- each address from one up to the top that no thing takes up has the fill
abbrev pub FilledFrom : List ℕ → ℕ → ℕ → ℕ → ℕ → List Thing → Type 0
FilledFrom bytes start top fill from ts =
    (a : ℕ) → from ≤ a → a < top → All (λ t. ¬ Covers t a) ts → slice_index bytes (a - start) ≡ fill

abbrev pub RegionFilled : List ℕ → ℕ → ℕ → ℕ → List Thing → Type 0
RegionFilled bytes start top fill ts = FilledFrom bytes start top fill start ts

-- things with the addresses of others, each of which reaches up to the greatest end so far
abbrev pub stretched : ℕ → List Thing → List Thing
stretched end [] = []
stretched end (t ∷ ts) = record t { size = max end (t.at + t.size) - t.at } ∷ stretched (max end (t.at + t.size)) ts
