-- The faults of the layers as a link's: each has an error of its own name, and want of memory is one.
use Rattle.elf_model.specs.declared.faults.CmdFault.{CmdFault}
use Rattle.elf_model.specs.declared.faults.CmdFault.TheVariants as command
use Rattle.elf_model.specs.declared.faults.LinkError.{LinkError}
use Rattle.elf_model.specs.declared.faults.LinkError.TheVariants as error
use Rattle.placing.specs.declared.faults.LayoutFault.{LayoutFault}
use Rattle.placing.specs.declared.faults.LayoutFault.TheVariants as layout
use Rattle.relocate.specs.declared.faults.RelocFault.{RelocFault}
use Rattle.relocate.specs.declared.faults.RelocFault.TheVariants as reloc
use Rattle.resolve.specs.declared.faults.ResolveFault.{ResolveFault}
use Rattle.resolve.specs.declared.faults.ResolveFault.TheVariants as resolve
use Rattle.search.specs.declared.faults.SearchFault.{SearchFault}
use Rattle.search.specs.declared.faults.SearchFault.TheVariants as search

abbrev pub of_command : CmdFault → LinkError
of_command command.Memory = error.Memory
of_command f = error.Command f

abbrev pub of_search : SearchFault → LinkError
of_search search.Memory = error.Memory
of_search search.FileMissing = error.FileMissing
of_search (search.BadObject f) = error.BadObject f
of_search (search.BadArchive f) = error.BadArchive f
of_search search.NoIndex = error.NoIndex
of_search (search.Group f) = error.BadGroup f

abbrev pub of_resolve : ResolveFault → LinkError
of_resolve resolve.Memory = error.Memory
of_resolve (resolve.Duplicate name) = error.Duplicate name
of_resolve resolve.BadCommon = error.BadCommon
of_resolve resolve.BadSymbol = error.BadSymbol

abbrev pub of_layout : LayoutFault → LinkError
of_layout layout.Memory = error.Memory
of_layout layout.SectionKind = error.SectionKind
of_layout layout.TooLarge = error.TooLarge

abbrev pub of_reloc : RelocFault → LinkError
of_reloc reloc.Memory = error.Memory
of_reloc (reloc.Undefined name) = error.Undefined name
of_reloc reloc.RefToDropped = error.RefToDropped
of_reloc reloc.RelocKind = error.RelocKind
of_reloc reloc.FieldOutside = error.FieldOutside
of_reloc reloc.OverlappingFields = error.OverlappingFields
of_reloc reloc.Overflow = error.Overflow
of_reloc reloc.TlsMismatch = error.TlsMismatch
of_reloc reloc.MixedSection = error.MixedSection
