use Rattle.std.proofs.Common.{drop}
use Rattle.std.specs.Prelude.{All}
use Rattle.elf_model.specs.Image.MapText.{FitsTarget}
use Rattle.got_tls.specs.Views.{slot_views}
use Rattle.linker.proofs.spelled_lines.show_targets.Given as goal

abbrev pub invariant-loop-slot : goal.invariant-loop-slot
invariant-loop-slot l =
    All (λ q. FitsTarget q.target) (slot_views (drop l.slot-index l.slots)) → All (λ q. FitsTarget q.target) (slot_views l.slots)
