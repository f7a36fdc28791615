use Rattle.std.proofs.Common.{◌≡◌, ◌+◌, ◌-◌, ◌%◌, ◌^◌, ◌∙◌, ap, ℕ, of_z}
use Rattle.std.proofs.lemmas.Int.{to_z-of_z}
use Rattle.std.specs.Int.{w64}
use Rattle.elf_model.proofs.WrappedValues.{wrapped-difference}
use Rattle.field_judge.proofs.formulas.shifted.Goals as goal

pub returns : goal.returns
returns c = λ b l base less.
    let bits : c.cast_unsigned.result ≡ of_z w64 c.args.addend =
    c.cast_unsigned.ensures ∙ ap (of_z w64) (to_z-of_z w64 c.args.addend c.ranges.addend) in
    ap (λ (n : ℕ). ((c.args.base + n) % 2 ^ 64 + (2 ^ 64 - c.args.less)) % 2 ^ 64) bits
    ∙ wrapped-difference c.args.base b c.args.addend c.args.less l c.ranges.addend base less
