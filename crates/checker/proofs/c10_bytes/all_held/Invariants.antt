use Rattle.std.proofs.Common.{drop}
use Rattle.std.specs.Prelude.{All}
use Rattle.check_relocs.specs.Bytes.{HoldsFields}
use Rattle.check_link.specs.Views.{placed_view}
use Rattle.elf_model.proofs.Rests.{Left}
use Rattle.checker.proofs.c10_bytes.all_held.Given as goal

abbrev pub invariant-loop-q : goal.invariant-loop-q
invariant-loop-q l =
    Left (All (λ r. HoldsFields l.memory l.row (placed_view r)) l.placed) (All (λ r. HoldsFields l.memory l.row (placed_view r)) (drop l.q-index l.placed))
