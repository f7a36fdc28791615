use Rattle.std.proofs.Common.{sym, ◌∙◌}
use Rattle.std.proofs.lemmas.Bool.{false≢true}
use Rattle.link_judge.proofs.WrongPlaces.{fields_or_rests, told_at}
use Rattle.link_judge.proofs.verdict.no_code.Goals as goal

pub returns-then-has_shared_thread_code : goal.returns-then-has_shared_thread_code
returns-then-has_shared_thread_code c =
    let l = c.args.placed.now in (
      sym (c.has_shared_thread_code.ensures l (sym (c.objects.ensures ∙ c.names.ensures)) (sym c.drops.ensures)) ∙ c.if-has_shared_thread_code.true,
      fields_or_rests l c.args.place c.requires.wrong,
    )

pub returns : goal.returns
returns c =
    let l = c.args.placed.now in
    told_at l c.args.place c.requires.judged c.requires.before c.requires.wrong
    (λ has.
    false≢true
    (sym (sym (c.has_shared_thread_code.ensures l (sym (c.objects.ensures ∙ c.names.ensures)) (sym c.drops.ensures))
    ∙ c.if-has_shared_thread_code.false) ∙ has))
