use Rattle.std.proofs.Common.{◌∙◌, Bool, List, ap, not, sym}
use Rattle.std.specs.List.{slice_get}
use Rattle.linkmap.specs.Borrowed.{slot_row}
use Rattle.elf_model.specs.Image.MapRecord.{SlotRow}
use Rattle.elf_model.specs.Image.RightLink.{objects_of}
use Rattle.check_link.specs.Slots.{line_of, request_view}
use Rattle.explain_check.proofs.WrongSlots.{unmarked}
use Rattle.explain_check.proofs.memory.wrong_line.Goals as goal

pub returns-then-first-number : goal.returns-then-first-number
returns-then-first-number c =
    let q = c.request_of_line-request.result in
    let first = ap (λ (rows : List SlotRow). line_of rows (request_view q)) (sym c.slots.ensures) ∙ (sym c.position.ensures ∙ c.in_ok-first.was) in record {
      row = slot_row c.in_ok-line_at.field-0.now;
      there = c.in_ok-line_at.ensures;
      request = c.request_of_line-request.ensures;
      needless = (first, c.if-first-number.true);
    }

pub returns : goal.returns
returns c =
    let s = c.args.bound.now in
    let q = c.request_of_line-request.result in
    let first = ap (λ (rows : List SlotRow). line_of rows (request_view q)) (sym c.slots.ensures) ∙ (sym c.position.ensures ∙ c.in_ok-first.was) in
    let mark = ap (λ (marks : List Bool). slice_get marks c.in_ok-first.first) (sym c.deref.ensures.value) ∙ (sym c.at.ensures ∙ c.in_ok-asked.was) in record {
      row = slot_row c.in_ok-line_at.field-0.now;
      there = c.in_ok-line_at.ensures;
      request = c.request_of_line-request.ensures;
      needless = unmarked c.args.needs.now (objects_of s) s.map.slots c.requires (request_view q) c.in_ok-first.first first c.in_ok-asked.asked mark (ap not c.if-asked.false);
    }
