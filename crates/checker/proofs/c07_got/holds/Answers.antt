use Rattle.std.proofs.Common.{arith}
use Rattle.elf_model.specs.declared.verdict.Clause.TheVariants.{C5, C6}
use Rattle.checker.proofs.PlacedFacts.{got_lies}
use Rattle.checker.proofs.c07_got.holds.Goals as goal

-- of the clauses before, the fifth says where the GOT ends, and the sixth in which segment it lies
pub holds_if_there-requires : goal.holds_if_there-requires
holds_if_there-requires c = got_lies c.args.bound.now (c.requires C5 (omega arith)) (c.requires C6 (omega arith))
