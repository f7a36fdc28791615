use Rattle.elf_model.proofs.DecimalDigits.{prefix_digits}
use Rattle.linkmap.proofs.digits.read_decimal.Goals as goal

pub digits_value-requires : goal.digits_value-requires
digits_value-requires c =
    let bytes = c.args.bytes.now in
    rw (c.split_at.ensures.front, c.digits_len.ensures.value) (prefix_digits bytes)
