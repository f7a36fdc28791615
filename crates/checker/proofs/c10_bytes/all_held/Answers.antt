use Rattle.std.specs.Prelude.{All}
use Rattle.check_relocs.specs.Bytes.{HoldsFields}
use Rattle.check_link.specs.Views.{placed_view}
use Rattle.check_link.specs.declared.things.Placed.{Placed}
use Rattle.elf_model.proofs.Rests.{all_more}
use Rattle.checker.proofs.c10_bytes.all_held.Goals as goal

pub loop-q-preserved : goal.loop-q-preserved
loop-q-preserved c =
    all_more (All (λ (r : Placed). HoldsFields c.args.memory.now c.args.row.now (placed_view r)) c.args.placed.now)
    (λ (r : Placed). HoldsFields c.args.memory.now c.args.row.now (placed_view r)) c.args.placed.now c.loop-q.q-index _ c.loop-q-test.true
    (c.holds_piece.ensures.0 c.if-not-holds_piece.false) c.loop-q.invariant

pub holds_piece-requires-clause-inside : goal.holds_piece-requires-clause-inside
holds_piece-requires-clause-inside c = c.requires.inside c.loop-q.q-index _ c.loop-q-test.true
