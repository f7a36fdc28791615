-- Which refusals are final: where one stands, no image and no map at all are a right link of these files and
-- words. Want of memory says nothing of them. A link that is too large, or of which a value doesn't fit, could
-- be right in another layout: of these it is said only where one piece alone is too wide, and where a value that
-- doesn't fit is the same in every layout.
use Rattle.std.specs.Prelude.{◌≡◌, ◌⊎◌, ℕ, ◌+◌, ◌^◌, ◌<◌, ◌==◌, ◌&&◌, Bool, true, false, List, Option, Some, IfSome, Ok, All, Any, is_some, map}
use Rattle.elf_model.specs.Inputs.Command.{Plan, command_of}
use Rattle.elf_model.specs.Link.Commons.{pieces}
use Rattle.elf_model.specs.Inputs.Files.{File}
use Rattle.elf_model.specs.Link.LinkerNames.{named_output}
use Rattle.elf_model.specs.Link.LinkerValues.{is_code_piece, is_file_data, is_loaded_piece, is_zero_data}
use Rattle.elf_model.specs.Link.Loading.{LoadedObject, loaded_objects}
use Rattle.elf_model.specs.Link.Meaning.{Common, Linker, Meaning, Symbol}
use Rattle.elf_model.specs.Link.Pieces.{Piece, is_of_output}
use Rattle.elf_model.specs.Link.Placement.{Where}
use Rattle.elf_model.specs.Link.Relocation.{Formula, Kind, Relocation, S+A, Z+A, definition_of, relocation_kind, relocations}
use Rattle.elf_model.specs.Link.RelocationValues.{Fits}
use Rattle.elf_model.specs.Link.Resolution.{SymbolOf, is_absolute}
use Rattle.elf_model.specs.Image.RightLink.{IsRightLink}
use Rattle.elf_model.specs.Link.Slots.{has_got}
use Rattle.elf_model.specs.declared.bound.Bound.{Bound}
use Rattle.elf_model.specs.declared.bound.Bound.TheVariants.{CodeEnd, DataEnd, GotStart, ImageEnd, ImageStart, OutputEnd, OutputStart, ZeroStart}
use Rattle.elf_model.specs.declared.faults.LinkError.{LinkError}
use Rattle.elf_model.specs.declared.faults.LinkError.TheVariants as error

-- no image and no map are a right link of these files and words
abbrev pub HasNoRightLink : List File → List (List ℕ) → Type 0
HasNoRightLink files words = (image map : List ℕ) → IsRightLink files words image map → ⊥

-- a piece alone takes up more than all addresses from the base on
abbrev pub IsTooWide : ℕ → Piece → Type 0
IsTooWide base q = 2 ^ 46 < base + q.size

-- a layout of objects from a base on, whoever laid out: each piece has some address, and there is a GOT just where one
-- is asked for
pub record IsLayout (base : ℕ) (objects : List LoadedObject) (w : Where) : Type 0 where
  pub base_is : w.base ≡ base
  pub placed_are : map (λ q. q.piece) w.placed ≡ pieces objects
  pub got_is : is_some w.got ≡ has_got objects

-- a piece is not the section of a definition
abbrev pub IsElsewhere : SymbolOf → Piece → Type 0
IsElsewhere s q = (q.object == s.object && q.section == s.entry.st_shndx) ≡ false

-- a symbol's value has no address in it: it is absolute; or its section isn't kept, and then the value is 0
abbrev pub HasNoAddress : List LoadedObject → SymbolOf → Type 0
HasNoAddress objects s = (is_absolute s.entry ≡ true) ⊎ All (IsElsewhere s) (pieces objects)

-- no piece is one of which a test is true
abbrev pub HasNone : (Piece → Bool) → List LoadedObject → Type 0
HasNone test objects = All (λ p. test p ≡ false) (pieces objects)

-- a name of the linker's stands for the base, or for the beginning or the end of nothing, which is 0
abbrev pub IsSettledBound : List LoadedObject → List ℕ → Bound → Type 0
IsSettledBound objects name ImageStart = Unit {0}
IsSettledBound objects name CodeEnd = HasNone is_code_piece objects
IsSettledBound objects name DataEnd = HasNone is_file_data objects × (has_got objects ≡ false)
IsSettledBound objects name ZeroStart = HasNone is_zero_data objects
IsSettledBound objects name ImageEnd = HasNone is_loaded_piece objects × (has_got objects ≡ false)
IsSettledBound objects name GotStart = ⊥
IsSettledBound objects name OutputStart = HasNone (is_of_output (named_output name)) objects
IsSettledBound objects name OutputEnd = HasNone (is_of_output (named_output name)) objects

-- what a name means has the same value in every layout; a common block never has
abbrev pub IsSettledMeaning : List LoadedObject → Meaning → Type 0
IsSettledMeaning objects (Symbol s) = HasNoAddress objects s
IsSettledMeaning objects (Common b) = ⊥
IsSettledMeaning objects (Linker name bound) = IsSettledBound objects name bound

-- so has a formula: the addend is added to the size of the definition, or to the value of such a one or of none
abbrev pub IsSettled : List LoadedObject → Formula → Option Meaning → Type 0
IsSettled objects Z+A d = Unit {0}
IsSettled objects S+A d = IfSome d (IsSettledMeaning objects)
IsSettled objects _ d = ⊥

-- such a value fails to fit its field in one layout, the own one say, and so it fits in none
pub record NeverFits (base : ℕ) (objects : List LoadedObject) (r : Relocation) : Type 0 where
  pub kind : Kind
  pub kind_is : relocation_kind r ≡ Some kind
  pub settled : IsSettled objects kind.formula (definition_of objects r.symbol)
  pub layout : Where
  pub is_layout : IsLayout base objects layout
  pub unfit : ¬ Fits objects layout r

-- an error is final
abbrev pub IsFinal : List File → List (List ℕ) → LinkError → Type 0
IsFinal files words error.Memory = ⊥
IsFinal files words error.TooLarge =
    (p : Plan) × (command_of words ≡ Ok p) × Any (IsTooWide p.base) (pieces (loaded_objects files p))
IsFinal files words error.Overflow =
    (p : Plan)
    × (command_of words ≡ Ok p)
    × Any (NeverFits p.base (loaded_objects files p)) (relocations (loaded_objects files p))
IsFinal files words _ = Unit {0}

-- where the error is final, no link is right
abbrev pub DeniesLinks : List File → List (List ℕ) → LinkError → Type 0
DeniesLinks files words e = IsFinal files words e → HasNoRightLink files words
