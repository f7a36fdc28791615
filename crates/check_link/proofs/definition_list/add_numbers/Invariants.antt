use Rattle.std.proofs.Common.{◌≡◌, ◌++◌, drop, map}
use Rattle.std.specs.Prelude.{filter}
use Rattle.elf_model.specs.Link.ChosenSymbols.{is_definition}
use Rattle.elf_model.specs.Link.Resolution.{symbols_from}
use Rattle.check_load.specs.Views.{loaded_view}
use Rattle.check_link.specs.DefinitionList.{ref_of}
use Rattle.check_link.proofs.definition_list.add_numbers.Given as goal

abbrev pub invariant-loop-j : goal.invariant-loop-j
invariant-loop-j l =
    l.found.items ++ map ref_of (filter is_definition (symbols_from l.number (loaded_view l.loaded) l.j (drop l.j l.entries)))
    ≡ l.fn.found.items ++ map ref_of (filter is_definition (symbols_from l.number (loaded_view l.loaded) 0 l.entries))
