use Rattle.std.proofs.Common.{◌∙◌}
use Rattle.byteview.proofs.NumberLaws.{low_first_is}
use Rattle.elf_model.proofs.Spelled.{spelled}
use Rattle.elf_model.proofs.fields.put_u64.Goals as goal

pub returns-clause-front : goal.returns-clause-front
returns-clause-front c =
    spelled 8 c.args.n c.args.at c.put_bytes.new.out c.args.out.now c.to_le_bytes.result c.put_bytes.ensures (c.to_le_bytes.ensures ∙ low_first_is 8 c.args.n)
