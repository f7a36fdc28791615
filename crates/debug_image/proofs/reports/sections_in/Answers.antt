use Rattle.std.proofs.Common.{◌+◌, ◌≤◌, ◌∙◌, ℕ, Bool, arith, true, false, ap, cond, sym}
use Rattle.search.specs.Views.{loaded_view}
use Rattle.debug_image.specs.DebugSections.{holds_debug_data}
use Rattle.debug_image.proofs.AnySteps.{count_more}
use Rattle.debug_image.proofs.reports.sections_in.Goals as goal

at_most_one : (b : Bool) → cond b 1 0 ≤ 1
at_most_one true = omega arith
at_most_one false = omega arith

pub loop-i-preserved : goal.loop-i-preserved
loop-i-preserved c =
    let f = holds_debug_data (loaded_view c.args.loaded.now) in
    let one = at_most_one c.holds_debug_data.result in
    record {
      exact =
          ap (λ (n : ℕ). c.loop-i.count + n) c.one_if-count.ensures
          ∙ (ap (λ (b : Bool). c.loop-i.count + cond b 1 0) c.holds_debug_data.ensures
          ∙ (ap (λ (n : ℕ). n + cond (f c.loop-i.i) 1 0) c.loop-i.invariant.exact ∙ sym (count_more f c.loop-i.i)));
      most = omega (arith, one);
    }
