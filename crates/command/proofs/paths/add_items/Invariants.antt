use Rattle.std.proofs.Common.{◌≡◌, drop}
use Rattle.std.specs.List.{flat_map}
use Rattle.elf_model.specs.Inputs.Command.{paths_of}
use Rattle.command.specs.Views.{source_of, texts_of}
use Rattle.command.specs.Candidates.{with_all}
use Rattle.command.proofs.paths.add_items.Given as goal

abbrev pub invariant-loop-item : goal.invariant-loop-item
invariant-loop-item l =
    with_all l.found (flat_map (λ i. paths_of (texts_of l.directories) (source_of i.source)) (drop l.item-index l.items))
    ≡ with_all l.fn.found (flat_map (λ i. paths_of (texts_of l.directories) (source_of i.source)) l.items)
