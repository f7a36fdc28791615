use Rattle.std.proofs.Common.{◌≡◌, ◌<◌, ℕ, length}
use Rattle.check_load.specs.Views.{loaded_view}
use Rattle.elf_model.specs.Link.Relocation.{symbol_at}
use Rattle.elf_model.specs.Marks.{is_marked}
use Rattle.keep_judge.specs.Collected.{has_name, is_bound_lost}
use Rattle.keep_judge.proofs.asked_bounds.lost_bounds.Given as goal

abbrev pub invariant-loop-j : goal.invariant-loop-j
invariant-loop-j l = record {
  len : length l.marks.items ≡ l.j;
  told : (i : ℕ) → i < l.j → is_marked l.marks.items i ≡ is_bound_lost l.names (has_name l.lost) (symbol_at l.number (loaded_view l.loaded) i);
}
