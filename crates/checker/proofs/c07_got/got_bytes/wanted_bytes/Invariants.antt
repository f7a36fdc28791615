use Rattle.std.proofs.Common.{◌≡◌, ◌++◌, map, replicate}
use Rattle.std.specs.List.{flat_map}
use Rattle.linkmap.specs.Borrowed.{slot_row}
use Rattle.elf_model.specs.Link.Slots.{slot_bytes}
use Rattle.check_link.proofs.SlotSteps.{rows_from}
use Rattle.checker.proofs.c07_got.got_bytes.wanted_bytes.Given as goal

abbrev pub invariant-loop-line : goal.invariant-loop-line
invariant-loop-line l =
    l.bytes.items ++ flat_map (slot_bytes l.bindings.objects l.bindings.places) (rows_from l.lines l.line-index)
    ≡ replicate 8 0 ++ flat_map (slot_bytes l.bindings.objects l.bindings.places) (map slot_row l.lines)
