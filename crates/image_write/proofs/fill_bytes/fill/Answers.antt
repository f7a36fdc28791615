use Rattle.std.proofs.Common.{◌≡◌, ◌-◌, ◌≤◌, ◌++◌, ℕ, arith, refl, replicate, sym}
use Rattle.std.specs.Prelude.{max, min}
use Rattle.image_write.specs.Parts.{fill_run}
use Rattle.image_write.specs.declared.fill_bytes.Code.{Code}
use Rattle.image_write.proofs.Fills.{three_runs}
use Rattle.image_write.proofs.StreamSteps.{towards_fault, towards_last, towards_more, towards_nothing}
use Rattle.image_write.proofs.fill_bytes.fill.Goals as goal

-- the fill as three runs, between the numbers that the code makes
runs_are :
    (c : Code) (x y s e : ℕ) → x ≤ y → s ≡ min (max x c.start) y → e ≡ min (max s c.end) y →
    fill_run c x y ≡ replicate (s - x) 0 ++ (replicate (e - s) 0x90 ++ replicate (y - e) 0)
runs_are c x y s e order is_s is_e = sym (three_runs c x y s e order is_s is_e)

pub returns-in_err-put_run : goal.returns-in_err-put_run
returns-in_err-put_run g c =
    let s = c.min-start.result in
    let e = c.min-end.result in
    towards_fault _ _ _ _ _ (replicate (s - c.args.from) 0) _ _ (towards_nothing _ _)
    (runs_are c.args.code.now c.args.from c.args.to s e c.requires.order (omega (arith, c.max.ensures, c.min-start.ensures)) (omega (arith, c.max-2.ensures, c.min-end.ensures)))
    c.from_residual.ensures.0 c.in_err-put_run.ensures.breaks

pub returns-in_err-put_run-2 : goal.returns-in_err-put_run-2
returns-in_err-put_run-2 g c =
    let s = c.min-start.result in
    let e = c.min-end.result in
    towards_fault _ _ _ _ _ (replicate (e - s) 0x90) (replicate (c.args.to - e) 0) _
    (towards_more _ _ _ _ _ (replicate (s - c.args.from) 0) _ (towards_nothing _ _)
    (runs_are c.args.code.now c.args.from c.args.to s e c.requires.order (omega (arith, c.max.ensures, c.min-start.ensures)) (omega (arith, c.max-2.ensures, c.min-end.ensures))) c.in_ok-put_run.ensures.grows)
    refl c.from_residual-in_err-put_run-2.ensures.0 c.in_err-put_run-2.ensures.breaks

pub returns : goal.returns
returns g c =
    let s = c.min-start.result in
    let e = c.min-end.result in
    towards_last _ _ _ _ _ _
    (towards_more _ _ _ _ _ (replicate (e - s) 0x90) (replicate (c.args.to - e) 0)
    (towards_more _ _ _ _ _ (replicate (s - c.args.from) 0) _ (towards_nothing _ _)
    (runs_are c.args.code.now c.args.from c.args.to s e c.requires.order (omega (arith, c.max.ensures, c.min-start.ensures)) (omega (arith, c.max-2.ensures, c.min-end.ensures))) c.in_ok-put_run.ensures.grows)
    refl c.in_ok-put_run-2.ensures.grows)
    c.put_run-3.ensures
