use Rattle.std.proofs.Common.{◌≡◌, drop, length}
use Rattle.std.specs.Prelude.{AllPairs}
use Rattle.elf_model.specs.Link.Groups.{ShareNoSection}
use Rattle.elf_model.proofs.Rests.{Left}
use Rattle.elf_model.proofs.SharedSections.{IsApartFrom}
use Rattle.comdat.proofs.lawfulness.share_no_section.Given as goal

abbrev pub invariant-loop-group : goal.invariant-loop-group
invariant-loop-group l = record {
  size : length l.marks.items ≡ l.count;
  apart : Left (AllPairs ShareNoSection l.groups) (IsApartFrom l.marks.items (drop l.group-index l.groups));
}
