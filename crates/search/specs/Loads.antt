-- What is loaded, as one value, and which sections of it are dropped.
use Rattle.std.specs.Prelude.{◌≡◌, ℕ, ◌∷◌, ◌++◌, List}
use Rattle.std.specs.List.{flat_map}
use Rattle.elf_model.specs.Inputs.Command.{Plan}
use Rattle.elf_model.specs.Link.Groups.{AreDropped}
use Rattle.elf_model.specs.Link.Loading.{LoadedObject}
use Rattle.elf_model.specs.Inputs.ObjectFile.{groups}

-- the plan of a command, the objects that it loads, in load order, and the names that have numbers: those of the symbols
-- that are not LOCAL among them
pub record LoadedPlan : Type 0 where
  pub plan : Plan
  pub objects : List LoadedObject
  pub names : List (List ℕ)

-- of each object, the sections are dropped that are members of a COMDAT group whose signature a COMDAT group has that
-- stands earlier in load order, and no others
abbrev pub AreDroppedInOrder : List LoadedObject → Type 0
AreDroppedInOrder objects =
    (before : List LoadedObject) (o : LoadedObject) (after : List LoadedObject) → objects ≡ before ++ o ∷ after →
    AreDropped (flat_map (λ x. groups x.bytes) before) (groups o.bytes) o.dropped
