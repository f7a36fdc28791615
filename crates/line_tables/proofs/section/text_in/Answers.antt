use Rattle.line_tables.proofs.TextParts.{told}
use Rattle.line_tables.proofs.section.text_in.Goals as goal

pub returns : goal.returns
returns c = told c.args.object.now c.args.spot.section c.in_ok-section_bytes.field-0.now c.new.result c.args.spot.offset c.text_at.result c.in_ok-section_bytes.ensures.exact c.new.ensures c.text_at.ensures
