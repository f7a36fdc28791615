use Rattle.std.proofs.Common.{sym}
use Rattle.check_relocs.proofs.RowLookup.{no_row}
use Rattle.check_relocs.proofs.section_fields.fields_in.Goals as goal

pub returns-in-None-clause-fields : goal.returns-in-None-clause-fields
returns-in-None-clause-fields c = no_row c.args.rows.now c.args.object c.args.section (sym c.in-None.ensures.lookup.0)
