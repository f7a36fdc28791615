use Rattle.std.proofs.Common.{List, subst}
use Rattle.std.specs.Prelude.{IfSome}
use Rattle.std.proofs.lemmas.Result.{on_ok_weaker}
use Rattle.elf_model.specs.Inputs.Files.{File, words_of}
use Rattle.debug_main.specs.Verdicts.{SaysSome}
use Rattle.debug_main.proofs.program.answer.Goals as goal

pub returns-in-Ok-Some-clause-verdict : goal.returns-in-Ok-Some-clause-verdict
returns-in-Ok-Some-clause-verdict g c p is check low =
    let judged =
    subst (λ o. IfSome o (λ v. (files : List File) × SaysSome files (words_of c.args.words.now) c.args.wanted v)) c.in-Ok-Some.field-0-is c.in-Ok-Some.ensures.judged in
    on_ok_weaker c.print.result (λ text. (judged.0, c.in-Ok-Some.verdict, judged.1, c.status.ensures.exact, text)) c.print.ensures
