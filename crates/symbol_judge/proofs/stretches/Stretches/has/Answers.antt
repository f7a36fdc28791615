use Rattle.std.proofs.Common.{◌≤◌, ◌∙◌, List, ap, arith, length, subst, sym, ℕ}
use Rattle.std.specs.Prelude.{◌↔◌, Any}
use Rattle.std.proofs.lemmas.Bool.{le-leb, leb-true}
use Rattle.symbol_judge.specs.Stretches.{Has, reach_among, reached}
use Rattle.symbol_judge.specs.declared.stretches.Stretch.{Stretch}
use Rattle.symbol_judge.proofs.StretchLaws.{has_iff, length_reached}
use Rattle.symbol_judge.proofs.stretches.Stretches.has.Goals as goal

pub reach_of-requires : goal.reach_of-requires
reach_of-requires c =
    let n = ap (length {A = Stretch}) (c.deref.ensures.value ∙ c.self.invariant.reached_are) ∙ length_reached 0 c.self.inside.sorted.items in
    let m = ap (length {A = Stretch}) c.deref-2.ensures.value in
    let w = c.count_begun.ensures.within in
    omega (arith, n, m, w)

pub returns : goal.returns
returns c =
    let ss = c.deref-2.result.now in
    let rs = c.deref.result.now in
    let count = c.count_begun.result in
    let at = c.args.at in
    let end = c.args.end in
    let begun = c.count_begun.ensures in
    let law =
    has_iff ss at end count c.requires begun.begun begun.behind begun.within rs
    (c.deref.ensures.value ∙ (c.self.invariant.reached_are ∙ ap (reached 0) (sym c.deref-2.ensures.value))) in
    let told =
    subst (λ (xs : List Stretch). (end ≤ reach_among rs count) ↔ Any (Has at end) xs) (c.deref-2.ensures.value ∙ c.self.view_is) law in (
      λ yes. told.0 (subst (λ (n : ℕ). end ≤ n) c.reach_of.ensures (leb-true _ _ yes)),
      λ some. le-leb _ _ (subst (λ (n : ℕ). end ≤ n) (sym c.reach_of.ensures) (told.1 some)),
    )
