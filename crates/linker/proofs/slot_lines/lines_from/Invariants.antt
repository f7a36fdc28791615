use Rattle.std.proofs.Common.{◌≡◌, ◌+◌, ◌*◌, ◌++◌, drop, map}
use Rattle.elf_model.specs.Image.MapRecord.{slot_row}
use Rattle.elf_model.specs.Own.OwnLayout.{slots_from}
use Rattle.got_tls.specs.Views.{slot_views}
use Rattle.linker.proofs.slot_lines.lines_from.Given as goal

abbrev pub invariant-loop-slot : goal.invariant-loop-slot
invariant-loop-slot l =
    (l.address ≡ l.got + 8 * l.slot-index)
    × (map slot_row l.lines.items ++ slots_from (l.address + 8) (slot_views (drop l.slot-index l.slots)) ≡ slots_from (l.got + 8) (slot_views l.slots))
