use Rattle.std.proofs.Common.{◌≡◌, ◌+◌, ◌-◌, ℕ, subst, sym, arith}
use Rattle.memory_judge.specs.Rests.{IsBeside}
use Rattle.frame_judge.proofs.copies.are_beside_record.Goals as goal

pub returns : goal.returns
returns c =
    let r = c.args.record.now in (
      λ t k low high. c.are_beside.ensures.0 t (r.offset + k) (omega (arith, low)) (omega (arith, high)),
      λ beside. c.are_beside.ensures.1 (λ j low high.
          let k = j - r.offset in
          let e : r.offset + k ≡ j = omega (arith, low) in
          subst (IsBeside c.args.fields.now) e (beside k (omega (arith, low)) (omega (arith, low, high)))),
    )
