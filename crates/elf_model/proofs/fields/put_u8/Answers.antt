use Rattle.std.proofs.Common.{sym, ◌∙◌}
use Rattle.byteview.proofs.NumberLaws.{le_bytes-one}
use Rattle.elf_model.proofs.Spelled.{spelled}
use Rattle.elf_model.proofs.fields.put_u8.Goals as goal

pub returns-clause-front : goal.returns-clause-front
returns-clause-front c =
    spelled 1 c.args.n c.args.at c.put_bytes.new.out c.args.out.now c.to_le_bytes.result c.put_bytes.ensures (c.to_le_bytes.ensures ∙ sym (le_bytes-one c.args.n c.ranges.n.fits))
