use Rattle.std.proofs.Common.{◌≡◌, List, arith, subst}
use Rattle.elf_model.specs.Image.RightLink.{HoldsBefore, Subject, placed_of}
use Rattle.elf_model.specs.declared.verdict.Clause.TheVariants.{C5, C8}
use Rattle.check_link.specs.PieceParts.{AreInLimit}
use Rattle.check_link.specs.Views.{placed_views}
use Rattle.check_link.specs.declared.things.Placed.{Placed}
use Rattle.checker.proofs.PlacedFacts.{got_in_limit, in_limit}
use Rattle.explain_check.proofs.found.Found.add_c8.Goals as goal

-- of the clauses before, the fifth says where the pieces and the GOT end
limit : (s : Subject) (qs : List Placed) → placed_views qs ≡ placed_of s → HoldsBefore C8 s → AreInLimit (placed_of s)
limit s qs same before = subst AreInLimit same (in_limit s qs same (before C5 (omega arith)))

pub end_of-end-requires : goal.end_of-end-requires
end_of-end-requires c = in_limit c.args.bound.now c.placed.result.now c.placed.ensures (c.requires.clauses C5 (omega arith))

pub wrong_header-requires : goal.wrong_header-requires
wrong_header-requires c = limit c.args.bound.now c.placed.result.now c.placed.ensures c.requires.clauses

pub inner_got-requires-clause-got : goal.inner_got-requires-clause-got
inner_got-requires-clause-got c = got_in_limit c.args.bound.now (c.requires.clauses C5 (omega arith))

pub inner_piece-requires-clause-pieces : goal.inner_piece-requires-clause-pieces
inner_piece-requires-clause-pieces c = limit c.args.bound.now c.placed.result.now c.placed.ensures c.requires.clauses

pub returns : goal.returns
returns c = c.add_some-3.ensures c.args.bound.now c.loop-number.invariant c.unheld.ensures
