use Rattle.std.proofs.Common.{◌∙◌, arith, subst, sym}
use Rattle.elf_model.specs.Image.RightLink.{Subject}
use Rattle.elf_model.specs.declared.verdict.Clause.TheVariants.{C5}
use Rattle.check_link.specs.PieceParts.{IsGotInLimit}
use Rattle.checker.proofs.PlacedFacts.{got_in_limit, in_limit}
use Rattle.checker.proofs.verdict.judge_names.Goals as goal

-- of the clauses before the seventh, the fifth says where the pieces and the GOT end
pub new-requires-3-clause-pieces : goal.new-requires-3-clause-pieces
new-requires-3-clause-pieces g c = in_limit c.args.placed.now c.placed.result.now c.placed.ensures (c.requires.clauses C5 (omega arith))

pub new-requires-3-clause-got : goal.new-requires-3-clause-got
new-requires-3-clause-got g c =
    subst (λ (s : Subject). IsGotInLimit s.map.got) (sym (c.link.view_is ∙ c.link-link.ensures)) (got_in_limit c.args.placed.now (c.requires.clauses C5 (omega arith)))
