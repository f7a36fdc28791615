use Rattle.std.proofs.Common.{◌≡◌, ◌&&◌, map}
use Rattle.std.specs.List.{position_from}
use Rattle.std.specs.Option.{option_or}
use Rattle.linkmap.specs.Borrowed.{slot_row}
use Rattle.elf_model.specs.Link.Slots.{Request, is_slot_of, row_request}
use Rattle.check_link.specs.Slots.{are_distinct, are_fresh, has_in, line_of, place_in}
use Rattle.check_link.proofs.SlotSteps.{rows_from}
use Rattle.check_link.proofs.slots.index_slots.Given as goal

abbrev pub invariant-loop-i : goal.invariant-loop-i
invariant-loop-i l = record {
  index :
      (q : Request) → option_or (place_in l.numbering.names.now l.positions q) (position_from (is_slot_of q) l.i (rows_from l.lines l.i))
      ≡ line_of (map slot_row l.lines) q;
  distinct :
      (l.distinct && are_fresh (has_in l.numbering.names.now l.positions) (map row_request (rows_from l.lines l.i)))
      ≡ are_distinct (map row_request (map slot_row l.lines));
}
