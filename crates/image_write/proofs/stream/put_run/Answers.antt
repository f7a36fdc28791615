use Rattle.std.proofs.Common.{ℕ, ◌≡◌, ◌+◌, ◌-◌, ◌≤◌, ◌++◌, ◌∙◌, ap, arith, replicate}
use Rattle.std.proofs.lemmas.List.{replicate-append-replicate}
use Rattle.image_write.proofs.StreamLaws.{breaks_between, breaks_on, grows_are, grows_between, grows_held, puts_are, puts_fault}
use Rattle.image_write.proofs.stream.put_run.Goals as goal

runs_joined : (n m k x : ℕ) → n + m ≡ k → replicate n x ++ replicate m x ≡ replicate k x
runs_joined n m k x e = replicate-append-replicate n m x ∙ ap (λ (i : ℕ). replicate i x) e

pub returns-in_err-make_room : goal.returns-in_err-make_room
returns-in_err-make_room g c =
    let within = c.loop-left.invariant.within in
    puts_are _ _ _ _ _ (runs_joined (c.args.count - c.loop-left.left) c.loop-left.left c.args.count c.args.byte (omega (arith, within)))
    (puts_fault _ _ _ _ c.from_residual.ensures.0
    (breaks_on _ _ (replicate (c.args.count - c.loop-left.left) c.args.byte) (replicate c.loop-left.left c.args.byte)
    (breaks_between _ _ _ _ c.loop-left.invariant.grows c.in_err-make_room.ensures.puts.breaks)))

pub loop-left-preserved : goal.loop-left-preserved
loop-left-preserved g c =
    let within = c.loop-left.invariant.within in
    let small : c.min-part.result ≤ c.loop-left.left = omega (arith, c.min-part.ensures) in
    let sum : (c.args.count - c.loop-left.left) + c.min-part.result ≡ c.args.count - (c.loop-left.left - c.min-part.result) =
    omega (arith, within, small) in
    let room = grows_between _ _ _ _ c.loop-left.invariant.grows c.in_ok-make_room.ensures.puts.grows in
    record {
      grows = grows_are _ _ _ _ (runs_joined (c.args.count - c.loop-left.left) c.min-part.result _ c.args.byte sum)
          (grows_held _ _ _ _ _ _ (replicate c.min-part.result c.args.byte) c.add_run.ensures room);
      within = omega (arith, within);
      failed = c.in_ok-make_room.ensures.puts.grows.failed ∙ c.loop-left.invariant.failed;
    }
