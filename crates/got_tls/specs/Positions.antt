-- Where slots of names stand, by the numbers of the names.
use Rattle.std.specs.Prelude.{◌≡◌, ◌≢◌, ◌⊎◌, ℕ, List, [], IsSomeAnd, Some, slice_index_or}
use Rattle.std.specs.List.{slice_get}
use Rattle.elf_model.specs.Image.MapRecord.{OfName}
use Rattle.got_tls.specs.Views.{owner_view}
use Rattle.got_tls.specs.declared.slot.Slot.{Slot}
use Rattle.got_tls.specs.declared.slot_index.TheConstants.{NO_POSITION}

-- a position is noted for a number
pub record IsNoted (positions : List ℕ) (number position : ℕ) : Type 0 where
  pub there : slice_get positions number ≡ Some position
  pub some : position ≢ NO_POSITION

-- a slot of the name that has a number stands at a position
abbrev pub StandsAt : List (List ℕ) → List Slot → ℕ → ℕ → Type 0
StandsAt names slots number position =
    IsSomeAnd (slice_get slots position) (λ s. owner_view s.owner ≡ OfName (slice_index_or names number []))

-- each position that is noted is that of a slot of the name
abbrev pub ArePositions : List (List ℕ) → List Slot → List ℕ → Type 0
ArePositions names slots positions = (number position : ℕ) → IsNoted positions number position → StandsAt names slots number position

-- what is noted was so before, or is a position for a number
abbrev pub AreNoted : ℕ → ℕ → List ℕ → List ℕ → Type 0
AreNoted number position old new = (n p : ℕ) → IsNoted new n p → IsNoted old n p ⊎ ((n ≡ number) × (p ≡ position))
