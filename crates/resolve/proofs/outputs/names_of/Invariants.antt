use Rattle.std.proofs.Common.{◌≡◌, ◌||◌, ℕ, List, drop}
use Rattle.std.specs.List.{list_any}
use Rattle.elf_model.specs.Link.UsedNames.{is_among}
use Rattle.resolve.specs.OutputSections.{is_named}
use Rattle.resolve.proofs.outputs.names_of.Given as goal

abbrev pub invariant-loop-section : goal.invariant-loop-section
invariant-loop-section l =
    (n : List ℕ) → (is_among l.names n || list_any (is_named n) (drop l.section-index l.sections)) ≡ list_any (is_named n) l.sections
