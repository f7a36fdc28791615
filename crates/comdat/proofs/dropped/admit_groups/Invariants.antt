use Rattle.std.proofs.Common.{◌≡◌, drop}
use Rattle.elf_model.specs.Link.Groups.{seen_after}
use Rattle.elf_model.specs.Marks.{marked}
use Rattle.comdat.specs.Signatures.{Begins, names_of}
use Rattle.comdat.proofs.DroppedMembers.{dropped_members}
use Rattle.comdat.proofs.dropped.admit_groups.Given as goal

abbrev pub invariant-loop-group : goal.invariant-loop-group
invariant-loop-group l = record {
  begins : Begins l.initial.signatures.keys l.signatures.keys;
  seen : seen_after (names_of l.signatures.keys) (drop l.group-index l.groups) ≡ seen_after (names_of l.initial.signatures.keys) l.groups;
  marks : marked l.marks.items (dropped_members (names_of l.signatures.keys) (drop l.group-index l.groups))
      ≡ marked l.initial.marks.items (dropped_members (names_of l.initial.signatures.keys) l.groups);
}
