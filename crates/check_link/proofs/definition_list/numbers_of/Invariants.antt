use Rattle.std.proofs.Common.{◌≡◌, ◌++◌, drop, map}
use Rattle.std.specs.Prelude.{filter}
use Rattle.elf_model.specs.Link.ChosenSymbols.{definitions, is_definition}
use Rattle.elf_model.specs.Link.Resolution.{symbols_of}
use Rattle.check_load.specs.Views.{loaded_views}
use Rattle.check_link.specs.DefinitionList.{ref_of}
use Rattle.check_link.proofs.definition_list.numbers_of.Given as goal

abbrev pub invariant-loop-k : goal.invariant-loop-k
invariant-loop-k l =
    l.found.items ++ map ref_of (filter is_definition (symbols_of l.k (drop l.k (loaded_views l.objects))))
    ≡ map ref_of (definitions (loaded_views l.objects))
