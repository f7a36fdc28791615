use Rattle.std.proofs.Common.{◌∙◌, arith}
use Rattle.elf_model.specs.Link.Placement.{is_of_section}
use Rattle.elf_model.specs.Link.Placement as placement
use Rattle.check_link.specs.PlaceIndex.{address_in}
use Rattle.check_link.specs.Views.{placed_view}
use Rattle.symbol_judge.proofs.IndexSteps.{first_end, first_more}
use Rattle.symbol_judge.proofs.piece_sizes.index_sizes.Goals as goal

pub loop-q-preserved : goal.loop-q-preserved
loop-q-preserved c = λ object section.
    first_more placed_view (λ (q : placement.Placed). q.piece.size) (is_of_section object section) c.args.placed.now
    (address_in c.loop-q.index object section) (address_in c.add_size.new.index object section) c.loop-q.q-index _ c.loop-q-test.true
    (c.in_ok-add_size.ensures object section)
    ∙ c.loop-q.invariant object section

pub returns : goal.returns
returns c = λ object section.
    first_end placed_view (λ (q : placement.Placed). q.piece.size) (is_of_section object section) c.args.placed.now
    (address_in c.loop-q.index object section) c.loop-q.q-index (omega (arith, c.loop-q-test.false)) (c.loop-q.invariant object section)
