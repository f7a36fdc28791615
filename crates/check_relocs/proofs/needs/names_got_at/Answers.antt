use Rattle.std.proofs.Common.{◌≡◌}
use Rattle.elf_model.specs.Link.Slots.{names_got}
use Rattle.check_relocs.specs.Referrers.{objects_here, symbol_here}
use Rattle.check_relocs.proofs.KnownSteps.{known_more}
use Rattle.check_relocs.proofs.needs.names_got_at.Goals as goal

pub returns-clause-kept : goal.returns-clause-kept
returns-clause-kept c =
    known_more (λ j u. u ≡ names_got (objects_here c.args.here.now) (symbol_here c.args.here.now j)) c.args.named.now.items c.keep_answer.new.answers.items c.args.j
    c.names_got_of-answer.result c.keep_answer.ensures c.requires c.names_got_of-answer.ensures
