use Rattle.std.proofs.Common.{sym, subst, [], ◌∷◌, ◌++◌}
use Rattle.std.specs.Prelude.{codes}
use Rattle.std.specs.Io.KnownBytes.{Appends}
use Rattle.std.proofs.lemmas.Result.{on_ok_weaker}
use Rattle.judge_main.specs.Opinions.{opinion_text}
use Rattle.judge_main.proofs.opinion.Opinion.print.Goals as goal

pub returns-in-Unjudged : goal.returns-in-Unjudged
returns-in-Unjudged g c =
    let old = g.W.Write.contents c.args.out.now in
    let new = g.W.Write.contents c.writeln-in-Unjudged.new.self in
    on_ok_weaker c.writeln-in-Unjudged.result
    (λ text. subst (λ o. Appends old new (opinion_text o)) (sym c.in-Unjudged.is)
    (subst (λ s. Appends old new (codes "not judged: " ++ s ++ 10 ∷ [])) c.subject.ensures text))
    c.writeln-in-Unjudged.ensures.bytes
