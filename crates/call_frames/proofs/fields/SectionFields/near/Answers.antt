use Rattle.std.proofs.Common.{◌≡◌, ◌≤◌, ◌<◌, List, ℕ, subst, sym, drop, take, ap, ◌∙◌}
use Rattle.std.specs.Prelude.{◌↔◌, All}
use Rattle.call_frames.proofs.AlikeLaws.{near_beside}
use Rattle.call_frames.specs.Fields.{AreFields}
use Rattle.memory_judge.specs.Rests.{IsBeside}
use Rattle.memory_judge.specs.declared.rests.FieldSpan.{FieldSpan}
use Rattle.call_frames.proofs.fields.SectionFields.near.Goals as goal

pub returns-clause-same : goal.returns-clause-same
returns-clause-same c = λ k low high.
    let spans = c.self.inside.spans.now in
    let view : spans ≡ c.args.self.now = c.self.view_is in
    let are : AreFields spans = c.self.invariant in
    let i = c.count_below.result in
    let j = c.count_below-2.result in
    let early = subst (λ (n : ℕ). All (λ s. s.at < n) (take i spans)) c.saturating_sub.ensures c.count_below.ensures.below in
    let late =
    subst (λ (ss : List FieldSpan). All (λ s. c.args.to ≤ s.at) (drop j ss)) c.split_at.ensures.back c.count_below-2.ensures.behind in
    let result = c.split_at-2.ensures.front ∙ ap (take j) c.split_at.ensures.back in
    subst (λ (ss : List FieldSpan). IsBeside c.split_at-2.result.0.now k ↔ IsBeside ss k) view
    (subst (λ (ss : List FieldSpan). IsBeside ss k ↔ IsBeside spans k) (sym result)
    (near_beside spans i j c.args.from c.args.to k are.narrow early late low high))
