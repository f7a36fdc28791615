use Rattle.std.proofs.Common.{ap, subst, sym}
use Rattle.std.specs.Str.{bytes_eq}
use Rattle.check_link.specs.Views.{placed_view}
use Rattle.judge_model.specs.Runs.{run_name}
use Rattle.run_judge.specs.Clear.{IsBesideGap}
use Rattle.run_judge.proofs.Stretching.{misses_named}
use Rattle.run_judge.proofs.stretches.placed_stretch.Goals as goal

pub returns : goal.returns
returns c = λ name from to some low.
    let q = placed_view c.args.q.now in
    let told =
    misses_named _ name from to (IsBesideGap from to c.thing_of_placed-thing.result) (bytes_eq name (run_name q.piece.name))
    (ap (bytes_eq name) c.run_name.ensures) (c.end_if_any.ensures from to some low) in
    let same = c.thing_of_placed-thing.ensures in (
      λ m. record { beside = λ e. subst (IsBesideGap from to) same (told.0 m e) },
      λ b. told.1 (λ e. subst (IsBesideGap from to) (sym same) (b.beside e)),
    )
