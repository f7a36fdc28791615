use Rattle.std.proofs.Common.{◌+◌, List, drop, arith, subst, sym}
use Rattle.std.specs.Prelude.{◌↔◌, All}
use Rattle.std.proofs.lemmas.List.Elements.{All-map}
use Rattle.elf_model.proofs.Listed.{All-unmap}
use Rattle.check_link.specs.Views.{placed_view}
use Rattle.check_link.specs.declared.things.Placed.{Placed}
use Rattle.run_judge.specs.Clear.{IsBesideIfStrange, Misses}
use Rattle.run_judge.specs.declared.stretches.Stretch.{Stretch}
use Rattle.run_judge.proofs.Stretching.{noted_all, noted_more}
use Rattle.run_judge.proofs.stretches.add_placed.Goals as goal

pub loop-q-preserved : goal.loop-q-preserved
loop-q-preserved c = λ name from to some low.
    let P = Misses name from to in
    let R = λ (q : Placed). IsBesideIfStrange name from to (placed_view q) in
    let placed = c.args.placed.now in
    let Q = All P c.args.stretches.now.items × All R placed in
    subst (λ (ss : List Stretch). (All P ss × All R (drop (c.loop-q.q-index + 1) placed)) ↔ Q) (sym c.in_ok-push.ensures.items)
    (noted_more P R placed c.loop-q.stretches.items c.placed_stretch.result Q c.loop-q.q-index _ c.loop-q-test.true
    (c.placed_stretch.ensures name from to some low) (c.loop-q.invariant name from to some low))

pub returns : goal.returns
returns c = λ name from to some low.
    let P = Misses name from to in
    let B = IsBesideIfStrange name from to in
    let R = λ (q : Placed). B (placed_view q) in
    let placed = c.args.placed.now in
    let all =
    noted_all P R placed c.loop-q.stretches.items (All P c.args.stretches.now.items × All R placed) c.loop-q.q-index
    (omega (arith, c.loop-q-test.false)) (c.loop-q.invariant name from to some low) in (
      λ h. ((all.0 h).0, All-map B placed_view placed (all.0 h).1),
      λ h. all.1 (h.0, All-unmap B placed_view placed h.1),
    )
