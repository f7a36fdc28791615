use Rattle.std.proofs.Common.{◌∙◌, List, ap, sym}
use Rattle.elf_model.specs.Image.MapRecord.{SlotRow, TargetRow}
use Rattle.check_link.specs.Slots.{kind_view, line_of, request_view}
use Rattle.check_relocs.specs.KnownSlots.{rows_here}
use Rattle.check_relocs.proofs.slots.position_at.Goals as goal

pub returns-in-Some : goal.returns-in-Some
returns-in-Some c = sym (rw c.in-Some.is at c.noted_position.ensures)

pub returns : goal.returns
returns c =
    let h = c.args.here.now in
    c.position.ensures
    ∙ (ap (λ (rows : List SlotRow). line_of rows (request_view (record { thread = c.args.thread; target = c.target_at-target.result }))) c.slots.ensures.rows
    ∙ ap (λ (t : TargetRow). line_of (rows_here h) (record { kind = kind_view c.args.thread; target = t })) c.target_at-target.ensures)
