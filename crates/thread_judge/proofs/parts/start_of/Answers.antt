use Rattle.std.proofs.Common.{◌∙◌, ◌+◌, ℕ, List, Option, ap, drop, map, refl, sym, arith}
use Rattle.std.proofs.lemmas.List.{drop_all}
use Rattle.elf_model.specs.Link.LinkerValues.{start_of_pieces}
use Rattle.elf_model.proofs.PieceBounds.{either_least, either_none, start_more}
use Rattle.thread_judge.specs.Parts.{part_test}
use Rattle.check_link.specs.Views.{placed_view}
use Rattle.check_link.specs.declared.things.Placed.{Placed}
use Rattle.thread_judge.proofs.parts.start_of.Goals as goal

pub loop-q-init : goal.loop-q-init
loop-q-init c = refl

pub loop-q-preserved : goal.loop-q-preserved
loop-q-preserved c =
    let test = part_test c.args.part in
    let xs = c.args.placed.now in
    let i = c.loop-q.q-index in
    ap (λ (o : Option ℕ). either_least o (start_of_pieces test (map placed_view (drop (i + 1) xs)))) c.earlier-start.ensures
    ∙ start_more placed_view test xs i _ c.loop-q.start c.loop-q-test.true
    ∙ c.loop-q.invariant

pub returns : goal.returns
returns c =
    let test = part_test c.args.part in
    let none = ap (λ (xs : List Placed). either_least c.loop-q.start (start_of_pieces test (map placed_view xs))) (drop_all c.loop-q.q-index c.args.placed.now (omega (arith, c.loop-q-test.false))) in
    sym (none ∙ either_none c.loop-q.start) ∙ c.loop-q.invariant
