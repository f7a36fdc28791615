use Rattle.std.proofs.Common.{◌≤◌, ◌^◌, refl, arith}
use Rattle.std.proofs.Math.Pow.{pow_mono}
use Rattle.reloc_values.proofs.formulas.is_unsigned.Goals as goal

pub returns-then-bits-ge64 : goal.returns-then-bits-ge64
returns-then-bits-ge64 c =
    let wide : 2 ^ 64 ≤ 2 ^ c.args.bits = pow_mono {i = 64} {j = c.args.bits} (omega (arith, c)) in
    (λ t. omega (arith, wide, c), λ below. refl)
