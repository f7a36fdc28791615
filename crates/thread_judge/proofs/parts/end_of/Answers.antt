use Rattle.std.proofs.Common.{◌≡◌, ◌∙◌, ◌+◌, List, ap, drop, map, max, sym, arith}
use Rattle.std.proofs.lemmas.List.{drop_all}
use Rattle.elf_model.specs.Link.LinkerValues.{end_of_pieces}
use Rattle.elf_model.proofs.Listed.{All-unmap}
use Rattle.elf_model.proofs.PieceBounds.{end_more}
use Rattle.judge_model.specs.Placed.{IsLow}
use Rattle.thread_judge.specs.Parts.{part_test}
use Rattle.check_link.specs.Views.{placed_view}
use Rattle.check_link.specs.declared.things.Placed.{Placed}
use Rattle.thread_judge.proofs.parts.end_of.Goals as goal

pub loop-q-init : goal.loop-q-init
loop-q-init c = omega arith

pub further-end-requires : goal.further-end-requires
further-end-requires c = All-unmap IsLow placed_view c.args.placed.now c.requires c.loop-q.q-index _ c.loop-q-test.true

pub loop-q-preserved : goal.loop-q-preserved
loop-q-preserved c =
    let test = part_test c.args.part in
    let xs = c.args.placed.now in
    let i = c.loop-q.q-index in
    ap (λ x. max x (end_of_pieces test (map placed_view (drop (i + 1) xs)))) c.further-end.ensures
    ∙ end_more placed_view test xs i _ c.loop-q.end c.loop-q-test.true
    ∙ c.loop-q.invariant

pub returns : goal.returns
returns c =
    let test = part_test c.args.part in
    let none = ap (λ (xs : List Placed). max c.loop-q.end (end_of_pieces test (map placed_view xs))) (drop_all c.loop-q.q-index c.args.placed.now (omega (arith, c.loop-q-test.false))) in
    let zero : max c.loop-q.end 0 ≡ c.loop-q.end = omega arith in
    sym (none ∙ zero) ∙ c.loop-q.invariant
