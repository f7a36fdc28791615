use Rattle.std.specs.Prelude.{◌≡◌, ◌||◌, ℕ, List, drop, false, map}
use Rattle.elf_model.specs.Link.UsedNames.{is_among}
use Rattle.resolve.specs.OutputSections.{output_view}
use Rattle.layout.specs.Mixed.{is_twice_from}
use Rattle.layout.proofs.mixed_outputs.twice_named.Given as goal

abbrev pub invariant-loop-section : goal.invariant-loop-section
invariant-loop-section l =
    (n : List ℕ) →
    (is_among l.twice n || is_twice_from n (is_among l.seen n) (map output_view (drop l.section-index l.sections)))
    ≡ is_twice_from n false (map output_view l.sections)
