use Rattle.std.proofs.Common.{option_map}
use Rattle.reloc_values.specs.Kinds.{kind_view}
use Rattle.debug_image.proofs.FieldSteps.{narrow_view, slotless_width}
use Rattle.debug_image.proofs.debug_values.debug_kind.Goals as goal

pub returns-in_default-clause-narrow : goal.returns-in_default-clause-narrow
returns-in_default-clause-narrow c = narrow_view c.slotless_kind.result (slotless_width c.args.number (option_map kind_view c.slotless_kind.result) c.slotless_kind.ensures)
