use Rattle.std.proofs.Common.{drop}
use Rattle.std.specs.Prelude.{All}
use Rattle.elf_model.proofs.Rests.{Left}
use Rattle.checker.specs.ThreadBlock.{AreOthersClear}
use Rattle.check_link.specs.Views.{placed_views}
use Rattle.checker.proofs.c08_thread_block.are_clear_to.Given as goal

abbrev pub invariant-loop-header : goal.invariant-loop-header
invariant-loop-header l =
    Left (All (λ h. AreOthersClear h.p_vaddr l.end l.got (placed_views l.placed)) l.headers)
    (All (λ h. AreOthersClear h.p_vaddr l.end l.got (placed_views l.placed)) (drop l.header-index l.headers))
