use Rattle.std.proofs.Common.{◌∙◌, Option, ℕ, ap, subst, sym}
use Rattle.elf_model.specs.Link.LinkerValues.{start_of_pieces}
use Rattle.judge_model.specs.Names.{is_some_zeros}
use Rattle.link_fields.specs.Parts.{Parts}
use Rattle.name_judge.proofs.SlotLaw.{spared_by}
use Rattle.name_judge.specs.Clear.{IsEndOfSlots}
use Rattle.name_judge.proofs.slot_ends.do_bounds_spare_slots.Goals as goal

pub returns : goal.returns
returns c = λ l parts slots.
    spared_by l c.args.slots.now slots c.end_of_slots-all.result c.end_of_slots-before.result c.end_of_slots-all.ensures
    (subst (λ (zeros : Option ℕ). IsEndOfSlots zeros c.args.slots.now c.end_of_slots-before.result)
    (c.zeros_of.ensures ∙ ap (λ (p : Parts). start_of_pieces is_some_zeros p.placed) (sym parts)) c.end_of_slots-before.ensures)
    c.args.parts.now c.parts.inside.rows.now c.are_rows_behind.result parts (ap (λ (p : Parts). p.rows) (sym c.parts.view_is)) c.are_rows_behind.ensures
