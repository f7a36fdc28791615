use Rattle.std.proofs.Common.{◌≡◌, drop}
use Rattle.elf_model.specs.Marks.{marked}
use Rattle.check_load.specs.Signatures.{lost_members, seen_by}
use Rattle.check_load.specs.NameNumbers.{is_among}
use Rattle.check_load.proofs.signatures.mark_lost.Given as goal

abbrev pub invariant-loop-group : goal.invariant-loop-group
invariant-loop-group l = record {
  seen : seen_by (is_among l.seen) (drop l.group-index l.groups) ≡ seen_by (is_among l.initial.seen) l.groups;
  marks : marked l.marks.items (lost_members (is_among l.seen) (drop l.group-index l.groups))
      ≡ marked l.initial.marks.items (lost_members (is_among l.initial.seen) l.groups);
}
