use Rattle.std.proofs.Common.{◌≤◌, ℕ, subst, sym, take}
use Rattle.std.specs.Prelude.{◌↔◌, All}
use Rattle.std.proofs.lemmas.Bool.{leb-true, le-leb}
use Rattle.run_judge.specs.Clear.{EndsBy}
use Rattle.run_judge.proofs.Topping.{gap_told}
use Rattle.run_judge.proofs.clear.are_addresses_clear.Goals as goal

pub returns : goal.returns
returns c =
    let ss = c.args.stretches.now in
    let k = c.count_before-before.result in
    let name = c.args.name.now in
    let from = c.args.gap.from in
    let told =
    subst (λ (n : ℕ). (n ≤ from) ↔ All (EndsBy name from) (take k ss)) (sym c.beside.ensures)
    ((c.requires.tops.each k _ c.count_before-before.ensures.within).told name from) in
    let law =
    gap_told ss k name from c.args.gap.to c.beside.result c.count_before-before.ensures.within c.count_before-before.ensures.before
    c.count_before-before.ensures.behind told in (
      λ e. law.0 (leb-true _ _ e),
      λ all. le-leb _ _ (law.1 all),
    )
