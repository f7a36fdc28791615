use Rattle.std.proofs.Common.{◌∙◌, ◌+◌, ℕ, List, Option, ap, drop, map, refl, sym, arith}
use Rattle.std.proofs.lemmas.List.{drop_all}
use Rattle.elf_model.specs.Link.LinkerValues.{start_of_pieces}
use Rattle.elf_model.proofs.PieceBounds.{either_least, either_none, start_more}
use Rattle.judge_model.specs.Names.{is_some_zeros}
use Rattle.check_link.specs.Views.{placed_view}
use Rattle.check_link.specs.declared.things.Placed.{Placed}
use Rattle.name_judge.proofs.nonempty.start_of_zeros.Goals as goal

pub loop-q-init : goal.loop-q-init
loop-q-init c = refl

pub loop-q-preserved : goal.loop-q-preserved
loop-q-preserved c =
    let xs = c.args.placed.now in
    let i = c.loop-q.q-index in
    ap (λ (o : Option ℕ). either_least o (start_of_pieces is_some_zeros (map placed_view (drop (i + 1) xs)))) c.earlier_zeros-start.ensures
    ∙ start_more placed_view is_some_zeros xs i _ c.loop-q.start c.loop-q-test.true
    ∙ c.loop-q.invariant

pub returns : goal.returns
returns c =
    let none = ap (λ (xs : List Placed). either_least c.loop-q.start (start_of_pieces is_some_zeros (map placed_view xs))) (drop_all c.loop-q.q-index c.args.placed.now (omega (arith, c.loop-q-test.false))) in
    sym (none ∙ either_none c.loop-q.start) ∙ c.loop-q.invariant
