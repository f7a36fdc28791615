-- What is told of the flaws of a phase: the first of all of them, each at its place, and how many the others are.
use Rattle.std.specs.Prelude.{◌≡◌, ◌⊎◌, ◌-◌, ℕ, true, List, Option, None, Some, Ok, is_some, length, map, take}
use Rattle.elf_model.specs.Inputs.Command.{Plan, command_of}
use Rattle.elf_model.specs.Inputs.Files.{File}
use Rattle.elf_model.specs.Link.Loading.{LoadedObject, loaded_objects}
use Rattle.elf_model.specs.declared.faults.LinkError.{LinkError}
use Rattle.elf_model.specs.declared.faults.LinkError.TheVariants as error
use Rattle.elf_model.specs.Own.Causes.{HasObjects, IsResolved}
use Rattle.flaws.specs.Flaws.{AreResolutionFlaws, AreResolvable}
use Rattle.flaws.specs.declared.flaw.Flaw.{Flaw}
use Rattle.flaws.specs.declared.flaw.Flaw.TheVariants as flaw
use Rattle.input_names.specs.declared.relocation_places.RelocationPlace.{RelocationPlace}
use Rattle.wrong_references.specs.References.{AreReferable, AreReferenceFlaws}
use Rattle.wrong_references.specs.declared.flaw.EntryNumber.{EntryNumber}
use Rattle.wrong_references.specs.declared.flaw.ReferenceFlaw.{ReferenceFlaw}
use Rattle.wrong_references.specs.declared.flaw.ReferenceFlaw.TheVariants as reference
use Rattle.explain.specs.declared.place.Found.{Found}
use Rattle.explain.specs.declared.place.Place.{Place}
use Rattle.explain.specs.declared.place.Place.TheVariants as place
use Rattle.explain.specs.declared.place.SymbolFault.{SymbolFault}
use Rattle.explain.specs.declared.place.SymbolFault.TheVariants as symbol_fault

-- the flaw of a symbol that has a fault
abbrev pub flaw_of_symbol : SymbolFault → ℕ → ℕ → Flaw
flaw_of_symbol symbol_fault.BadCommon k j = flaw.Common k j
flaw_of_symbol symbol_fault.BadSymbol k j = flaw.Symbol k j
flaw_of_symbol symbol_fault.Duplicate k j = flaw.Definition k j

-- the flaw of resolution that a place tells, where it tells one
abbrev pub flaw_of : Place → Option Flaw
flaw_of (place.Section o p) = Some (flaw.Section p.object p.number)
flaw_of (place.Symbol o p fault) = Some (flaw_of_symbol fault p.object p.number)
flaw_of _ = None

-- a place has the numbers of an entry of an object
abbrev pub entry_of : RelocationPlace → EntryNumber
entry_of p = record { table = p.table; number = p.number }

abbrev pub IsNumbered : ℕ → EntryNumber → RelocationPlace → Type 0
IsNumbered k e p = (p.object ≡ k) × (entry_of p ≡ e)

-- the flaw of references that it tells, where it tells one
abbrev pub reference_of : Place → Option ReferenceFlaw
reference_of (place.Relocation o p fault others) = Some (reference.Relocation p.object (entry_of p) fault others)
reference_of (place.Entry name) = Some reference.Entry
reference_of (place.Overlap o p q) = Some (reference.Overlap p.object (entry_of p) (entry_of q))
reference_of _ = None

-- an error is one of the phase of resolution
abbrev pub IsOfResolution : LinkError → Type 0
IsOfResolution error.SectionKind = Unit {0}
IsOfResolution (error.Duplicate name) = Unit {0}
IsOfResolution error.BadCommon = Unit {0}
IsOfResolution error.BadSymbol = Unit {0}
IsOfResolution _ = ⊥

-- or of the phase of references
abbrev pub IsOfReferences : LinkError → Type 0
IsOfReferences (error.Undefined name) = Unit {0}
IsOfReferences error.RefToDropped = Unit {0}
IsOfReferences error.RelocKind = Unit {0}
IsOfReferences error.FieldOutside = Unit {0}
IsOfReferences error.OverlappingFields = Unit {0}
IsOfReferences error.TlsMismatch = Unit {0}
IsOfReferences error.MixedSection = Unit {0}
IsOfReferences error.NoEntry = Unit {0}
IsOfReferences _ = ⊥

-- a place tells a flaw of an error's phase
abbrev pub IsToldOf : LinkError → Place → Type 0
IsToldOf e p = (IsOfResolution e × (is_some (flaw_of p) ≡ true)) ⊎ (IsOfReferences e × (is_some (reference_of p) ≡ true))

-- of all flaws the first are told, so many at most, and the others are counted
pub record AreTold {F : Type 0} (of : Place → Option F) (all : List F) (most : ℕ) (places : List Place) (more : ℕ) : Type 0 where
  pub first : map of places ≡ map Some (take most all)
  pub others : more ≡ length all - most

-- the flaws of objects in a phase are told
abbrev pub TellsResolutionOf : List LoadedObject → ℕ → List Place → ℕ → Type 0
TellsResolutionOf objects most places more = (all : List Flaw) × AreResolutionFlaws objects all × AreTold flaw_of all most places more

abbrev pub TellsReferencesOf : List LoadedObject → List ℕ → ℕ → List Place → ℕ → Type 0
TellsReferencesOf objects entry most places more = (all : List ReferenceFlaw) × AreReferenceFlaws objects entry all × AreTold reference_of all most places more

-- they are, where loading comes to the phase and something in it refuses the link
abbrev pub TellsUnresolvable : List File → List (List ℕ) → ℕ → List Place → ℕ → Type 0
TellsUnresolvable files words most places more =
    (plan : Plan) → HasObjects files words plan → ¬ AreResolvable (loaded_objects files plan) →
    TellsResolutionOf (loaded_objects files plan) most places more

abbrev pub TellsUnreferable : List File → List (List ℕ) → ℕ → List Place → ℕ → Type 0
TellsUnreferable files words most places more =
    (plan : Plan) → IsResolved files words plan → ¬ AreReferable (loaded_objects files plan) plan.entry →
    TellsReferencesOf (loaded_objects files plan) plan.entry most places more

-- the flaws of the objects that words load from files
abbrev pub TellsResolution : List File → List (List ℕ) → ℕ → Found → Type 0
TellsResolution files words most f =
    (plan : Plan) → command_of words ≡ Ok plan → TellsResolutionOf (loaded_objects files plan) most f.places.items f.more

abbrev pub TellsReferences : List File → List (List ℕ) → ℕ → Found → Type 0
TellsReferences files words most f =
    (plan : Plan) → command_of words ≡ Ok plan → TellsReferencesOf (loaded_objects files plan) plan.entry most f.places.items f.more
