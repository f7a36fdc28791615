-- What lines say of refusals: the name and the number of each, and those of the fault behind it.
use Rattle.std.specs.Prelude.{ℕ, List, [], ◌++◌, Option, None, Some, codes}
use Rattle.elf_model.specs.declared.faults.CmdFault.{CmdFault}
use Rattle.elf_model.specs.declared.faults.CmdFault.TheVariants as command
use Rattle.elf_model.specs.declared.faults.ObjFault.{ObjFault}
use Rattle.elf_model.specs.declared.faults.ObjFault.TheVariants as object
use Rattle.elf_model.specs.declared.faults.ArFault.{ArFault}
use Rattle.elf_model.specs.declared.faults.ArFault.TheVariants as archive
use Rattle.elf_model.specs.declared.faults.GroupFault.{GroupFault}
use Rattle.elf_model.specs.declared.faults.GroupFault.TheVariants as group
use Rattle.elf_model.specs.declared.faults.LinkError.{LinkError}
use Rattle.elf_model.specs.declared.faults.LinkError.TheVariants as error

abbrev pub command_text : CmdFault → List ℕ
command_text command.Memory = codes "Memory (1)"
command_text command.UnknownOption = codes "UnknownOption (2)"
command_text command.MissingValue = codes "MissingValue (3)"
command_text command.BadNumber = codes "BadNumber (4)"
command_text command.GroupNesting = codes "GroupNesting (5)"
command_text command.NoInput = codes "NoInput (6)"
command_text command.NotArchiveInGroup = codes "NotArchiveInGroup (7)"

abbrev pub object_text : ObjFault → List ℕ
object_text object.Memory = codes "Memory (1)"
object_text object.Truncated = codes "Truncated (2)"
object_text object.NotElf64 = codes "NotElf64 (3)"
object_text object.NotRelocatable = codes "NotRelocatable (4)"
object_text object.WrongMachine = codes "WrongMachine (5)"
object_text object.BadSectionTable = codes "BadSectionTable (6)"
object_text object.BadSectionRange = codes "BadSectionRange (7)"
object_text object.BadString = codes "BadString (8)"
object_text object.BadSymbolTable = codes "BadSymbolTable (9)"
object_text object.BadRela = codes "BadRela (10)"
object_text object.BadGroup = codes "BadGroup (11)"
object_text object.TooMany = codes "TooMany (12)"

abbrev pub archive_text : ArFault → List ℕ
archive_text archive.Memory = codes "Memory (1)"
archive_text archive.NotArchive = codes "NotArchive (2)"
archive_text archive.Truncated = codes "Truncated (3)"
archive_text archive.BadHeader = codes "BadHeader (4)"
archive_text archive.BadIndex = codes "BadIndex (5)"
archive_text archive.BadName = codes "BadName (6)"
archive_text archive.TooMany = codes "TooMany (7)"

abbrev pub group_text : GroupFault → List ℕ
group_text group.Memory = codes "Memory (1)"
group_text group.NamelessSignature = codes "NamelessSignature (2)"
group_text group.BadFlags = codes "BadFlags (3)"
group_text group.TwoGroups = codes "TwoGroups (4)"

-- of a refused link: its own, and that of the fault that it holds
abbrev pub own_text : LinkError → List ℕ
own_text error.Memory = codes "Memory (1)"
own_text (error.Command x) = codes "Command (2)"
own_text error.FileMissing = codes "FileMissing (3)"
own_text (error.BadObject x) = codes "BadObject (4)"
own_text (error.BadArchive x) = codes "BadArchive (5)"
own_text error.NoIndex = codes "NoIndex (6)"
own_text error.SectionKind = codes "SectionKind (7)"
own_text (error.BadGroup x) = codes "BadGroup (8)"
own_text (error.Duplicate x) = codes "Duplicate (9)"
own_text (error.Undefined x) = codes "Undefined (10)"
own_text error.RefToDropped = codes "RefToDropped (11)"
own_text error.RelocKind = codes "RelocKind (12)"
own_text error.FieldOutside = codes "FieldOutside (13)"
own_text error.OverlappingFields = codes "OverlappingFields (14)"
own_text error.Overflow = codes "Overflow (15)"
own_text error.TlsMismatch = codes "TlsMismatch (16)"
own_text error.BadCommon = codes "BadCommon (17)"
own_text error.NoEntry = codes "NoEntry (18)"
own_text error.MixedSection = codes "MixedSection (19)"
own_text error.TooLarge = codes "TooLarge (20)"
own_text error.BadSymbol = codes "BadSymbol (21)"

abbrev pub cause_text : LinkError → Option (List ℕ)
cause_text (error.Command f) = Some (command_text f)
cause_text (error.BadObject f) = Some (object_text f)
cause_text (error.BadArchive f) = Some (archive_text f)
cause_text (error.BadGroup f) = Some (group_text f)
cause_text _ = None

-- what follows a name, where there is something; and the line of a refusal, with the symbol that it names
abbrev pub following : Option (List ℕ) → List ℕ
following None = []
following (Some text) = codes ": " ++ text

abbrev pub refusal_line : LinkError → Option (List ℕ) → List ℕ
refusal_line e symbol = codes "ld: " ++ (own_text e ++ (following (cause_text e) ++ (following symbol ++ codes "\n")))
