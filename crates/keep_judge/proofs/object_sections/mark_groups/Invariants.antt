use Rattle.std.proofs.Common.{◌≡◌, ◌==◌, ◌||◌, ℕ, drop, length}
use Rattle.std.specs.List.{list_any}
use Rattle.elf_model.specs.Marks.{is_marked}
use Rattle.keep_judge.proofs.object_sections.mark_groups.Given as goal

abbrev pub invariant-loop-group : goal.invariant-loop-group
invariant-loop-group l = record {
  len : length l.marks ≡ length l.initial.marks;
  marked :
      (i : ℕ) → (is_marked l.marks i || list_any (λ g. list_any (λ m. m == i) g.members) (drop l.group-index l.groups))
      ≡ (is_marked l.initial.marks i || list_any (λ g. list_any (λ m. m == i) g.members) l.groups);
}
