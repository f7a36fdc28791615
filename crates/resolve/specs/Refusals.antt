-- Why names could not be resolved.
use Rattle.std.specs.Prelude.{◌≡◌, ℕ, List}
use Rattle.elf_model.specs.Link.Loading.{LoadedObject}
use Rattle.elf_model.specs.Link.Resolution.{AreSoundCommons, AreSoundSymbols, IsDuplicate}
use Rattle.resolve.specs.declared.faults.ResolveFault.{ResolveFault}
use Rattle.resolve.specs.declared.faults.ResolveFault.TheVariants as error

-- why the names of loaded objects could not be resolved
abbrev pub ResolvingFails : List LoadedObject → ResolveFault → Type 0
ResolvingFails objects error.Memory = Unit {0}
ResolvingFails objects (error.Duplicate name) = IsDuplicate objects name.items
ResolvingFails objects error.BadCommon = ¬ AreSoundCommons objects
ResolvingFails objects error.BadSymbol = ¬ AreSoundSymbols objects

-- the refusal that names a symbol, but for memory
abbrev pub IsDuplicateOf : List ℕ → ResolveFault → Type 0
IsDuplicateOf name error.Memory = Unit {0}
IsDuplicateOf name (error.Duplicate n) = n.items ≡ name
IsDuplicateOf name _ = ⊥
