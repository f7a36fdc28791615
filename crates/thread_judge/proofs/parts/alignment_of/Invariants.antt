use Rattle.std.specs.Prelude.{◌≡◌, ◌≤◌, drop, map, max}
use Rattle.elf_model.specs.Link.ThreadStorage.{alignment_of}
use Rattle.check_link.specs.Views.{placed_views}
use Rattle.thread_judge.specs.Parts.{part_test}
use Rattle.thread_judge.proofs.parts.alignment_of.Given as goal

abbrev pub invariant-loop-q : goal.invariant-loop-q
invariant-loop-q l = record {
  some : 1 ≤ l.align;
  greatest :
      max l.align (alignment_of (part_test l.part) (map (λ q. q.piece) (placed_views (drop l.q-index l.placed))))
      ≡ alignment_of (part_test l.part) (map (λ q. q.piece) (placed_views l.placed));
}
