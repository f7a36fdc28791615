-- The sweep over the fields of an object in order: what holds after each.
use Rattle.std.specs.Prelude.{◌≡◌, ◌⊎◌, ◌<◌, ◌≤◌, ℕ, ◌+◌, List, [], All, Contains, drop, take}
use Rattle.flaws.specs.Flaws.{AreAdded}
use Rattle.wrong_references.specs.Overlaps.{AddsField, Came, came}
use Rattle.wrong_references.specs.declared.flaw.ReferenceFlaw.{ReferenceFlaw}
use Rattle.wrong_references.specs.declared.overlaps.FieldAt.{FieldAt}

-- a field is in a later section than another one, or reaches as far
abbrev pub Reaches : FieldAt → FieldAt → Type 0
Reaches x g = (g.section < x.section) ⊎ ((g.section ≡ x.section) × (g.start + g.width ≤ x.start + x.width))

-- of the first i fields of object k one reaches furthest, and what they add is in the flaws
pub record IsSwept (k : ℕ) (fields : List FieldAt) (before : List ReferenceFlaw) (i : ℕ) (furthest : FieldAt) (flaws : List ReferenceFlaw) : Type 0 where
  pub there : Contains (take i fields) furthest
  pub reach : All (Reaches furthest) (take i fields)
  pub told :
      (end : Came) → AreAdded (AddsField k) (drop i fields) (came (take i fields) flaws) end → AreAdded (AddsField k) fields (came [] before) end
