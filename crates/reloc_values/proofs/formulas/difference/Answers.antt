use Rattle.std.proofs.Common.{◌≡◌, ℕ, ◌+◌, ◌-◌, ◌%◌, ◌^◌, ap, ◌∙◌, w64}
use Rattle.std.specs.Int.{cast_unsigned}
use Rattle.std.proofs.lemmas.Int.{to_z-of_z}
use Rattle.elf_model.proofs.WrappedValues.{wrapped-difference}
use Rattle.reloc_values.proofs.formulas.difference.Goals as goal

pub returns : goal.returns
returns c = λ m p e f.
    let bits : c.cast_unsigned.result ≡ cast_unsigned w64 c.args.addend = rw (to_z-of_z w64 c.args.addend c.ranges.addend) at c.cast_unsigned.ensures in
    ap (λ (u : ℕ). ((c.args.n + u) % 2 ^ 64 + (2 ^ 64 - c.args.place)) % 2 ^ 64) bits
    ∙ wrapped-difference c.args.n m c.args.addend c.args.place p c.ranges.addend e f
