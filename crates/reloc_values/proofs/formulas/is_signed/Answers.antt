use Rattle.std.proofs.Common.{◌≤◌, ◌-◌, ◌^◌, inl, refl, arith}
use Rattle.std.proofs.Math.Pow.{pow_mono}
use Rattle.reloc_values.proofs.formulas.is_signed.Goals as goal

pub returns-then-bits-gt64 : goal.returns-then-bits-gt64
returns-then-bits-gt64 c =
    let wide : 2 ^ 64 ≤ 2 ^ (c.args.bits - 1) = pow_mono {i = 64} {j = c.args.bits - 1} (omega (arith, c)) in
    (λ t. inl (omega (arith, wide, c)), λ signed. refl)
