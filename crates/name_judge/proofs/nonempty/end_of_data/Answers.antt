use Rattle.std.proofs.Common.{◌≡◌, ◌∙◌, ◌+◌, List, ap, drop, map, max, sym, arith}
use Rattle.std.proofs.lemmas.List.{drop_all}
use Rattle.elf_model.specs.Link.LinkerValues.{end_of_pieces}
use Rattle.elf_model.proofs.Listed.{All-unmap}
use Rattle.elf_model.proofs.PieceBounds.{end_more}
use Rattle.check_link.specs.PieceParts.{IsInLimit}
use Rattle.check_link.specs.Views.{placed_view}
use Rattle.check_link.specs.declared.things.Placed.{Placed}
use Rattle.judge_model.specs.Names.{is_some_small_data}
use Rattle.name_judge.proofs.nonempty.end_of_data.Goals as goal

pub loop-q-init : goal.loop-q-init
loop-q-init c = omega arith

pub further_data-end-requires : goal.further_data-end-requires
further_data-end-requires c = All-unmap IsInLimit placed_view c.args.placed.now c.requires c.loop-q.q-index _ c.loop-q-test.true

pub loop-q-preserved : goal.loop-q-preserved
loop-q-preserved c =
    let xs = c.args.placed.now in
    let i = c.loop-q.q-index in
    ap (λ x. max x (end_of_pieces is_some_small_data (map placed_view (drop (i + 1) xs)))) c.further_data-end.ensures
    ∙ end_more placed_view is_some_small_data xs i _ c.loop-q.end c.loop-q-test.true
    ∙ c.loop-q.invariant

pub returns : goal.returns
returns c =
    let none =
    ap (λ (xs : List Placed). max c.loop-q.end (end_of_pieces is_some_small_data (map placed_view xs)))
    (drop_all c.loop-q.q-index c.args.placed.now (omega (arith, c.loop-q-test.false))) in
    let zero : max c.loop-q.end 0 ≡ c.loop-q.end = omega arith in
    sym (none ∙ zero) ∙ c.loop-q.invariant
