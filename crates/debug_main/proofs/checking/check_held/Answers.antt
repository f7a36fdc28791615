use Rattle.std.proofs.Common.{List, subst}
use Rattle.std.specs.Prelude.{IfSome}
use Rattle.elf_model.specs.Inputs.Files.{File, words_of}
use Rattle.debug_main.specs.Verdicts.{Says}
use Rattle.debug_main.proofs.checking.check_held.Goals as goal

pub returns-then-is_empty-clause-judged : goal.returns-then-is_empty-clause-judged
returns-then-is_empty-clause-judged g c =
    (_, (c.deref-then-is_empty.result.now, c.deref-then-is_empty-2.result.now, c.in_ok-verdict.ensures))

pub returns-in-Some-clause-judged : goal.returns-in-Some-clause-judged
returns-in-Some-clause-judged g c =
    let judged =
    subst (λ o. IfSome o (λ v. (files : List File) × Says files (words_of c.args.words.now) c.args.wanted c.deref-2.result.now c.deref-3.result.now v))
    c.in-Some.is c.in_ok-verdict-2.ensures.judged in
    (judged.0, (c.deref-2.result.now, c.deref-3.result.now, judged.1))

pub returns-clause-judged : goal.returns-clause-judged
returns-clause-judged g c = (_, (c.deref-5.result.now, c.deref-6.result.now, c.in_ok-verdict-3.ensures))
