use Rattle.std.proofs.Common.{◌≡◌, ◌==◌, ◌||◌, ℕ, drop, length}
use Rattle.std.specs.List.{list_any}
use Rattle.elf_model.specs.Marks.{is_marked}
use Rattle.keep_judge.proofs.object_sections.mark_members.Given as goal

abbrev pub invariant-loop-member : goal.invariant-loop-member
invariant-loop-member l = record {
  len : length l.marks ≡ length l.initial.marks;
  marked :
      (i : ℕ) → (is_marked l.marks i || list_any (λ m. m == i) (drop l.member-index l.members))
      ≡ (is_marked l.initial.marks i || list_any (λ m. m == i) l.members);
}
