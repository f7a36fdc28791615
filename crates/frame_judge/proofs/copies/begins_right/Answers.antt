use Rattle.std.proofs.Common.{◌≡◌, ◌+◌, ◌<◌, ◌≤◌, ◌∙◌, ℕ, subst, sym, arith}
use Rattle.memory_judge.specs.Rests.{IsBeside}
use Rattle.frame_judge.proofs.ListLaws.{not_to, not_from}
use Rattle.frame_judge.proofs.copies.begins_right.Goals as goal

pub returns : goal.returns
returns c =
    let at = c.args.record.now.offset + 8 in
    let B = IsBeside c.args.fields.now in
    let one : B at → (k : ℕ) → at ≤ k → k < c.args.record.now.offset + 9 → B k =
    λ b k low high. let e : at ≡ k = omega (arith, low, high) in subst B e b in (
      λ t f. (let long = c.if-record-le8.false in omega (arith, long), λ b. not_to _ t (c.are_beside.ensures.1 (one b))),
      λ h. not_from _ (λ t. (h (λ z. c.if-record-eq0.false z)).1 (c.are_beside.ensures.0 t at (omega arith) (omega arith))),
    )
