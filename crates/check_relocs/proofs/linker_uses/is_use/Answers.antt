use Rattle.std.proofs.Common.{◌≡◌}
use Rattle.elf_model.specs.Link.UsedNames.{is_linker_use}
use Rattle.check_relocs.specs.Referrers.{objects_here, symbol_here}
use Rattle.check_relocs.proofs.KnownSteps.{known_more}
use Rattle.check_relocs.proofs.linker_uses.is_use.Goals as goal

pub returns-clause-kept : goal.returns-clause-kept
returns-clause-kept c =
    known_more (λ j u. u ≡ is_linker_use (objects_here c.args.here.now) (symbol_here c.args.here.now j)) c.args.uses.now.items c.keep_answer.new.answers.items
    c.args.j c.is_use_of-answer.result c.keep_answer.ensures c.requires c.is_use_of-answer.ensures
