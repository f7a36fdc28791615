use Rattle.std.proofs.Common.{◌≡◌, ◌∙◌, ◌∷◌, [], None, false, string_bytes, ap, sym, arith}
use Rattle.std.proofs.lemmas.Result.{err_from_is_err_and}
use Rattle.elf_model.specs.Inputs.Files.{words_of}
use Rattle.elf_model.specs.Inputs.Command.{Plan}
use Rattle.command.specs.PlaceViews.{state_of}
use Rattle.command.proofs.Growth.{state_from}
use Rattle.command.proofs.Ahead.{all_read, ahead_end, ahead_more, ahead_start, here, none_left, phrase_fault, place_fault}
use Rattle.command.proofs.plan_reader.read_phrases.Goals as goal

pub phrases-init : goal.phrases-init
phrases-init c =
    let start : state_of c.default_plan-plan.result (record { whole = false; group = None; groups = 0 }) ≡ state_from [] = ap (λ (p : Plan). state_of p (record { whole = false; group = None; groups = 0 })) c.default_plan-plan.ensures in
    record { ahead = ahead_start (words_of c.args.words.now) _ start; few = omega arith }

pub returns-in_err-phrase-clause-word : goal.returns-in_err-phrase-clause-word
returns-in_err-phrase-clause-word c =
    let p = err_from_is_err_and c.from_residual.result c.from_residual.ensures.1 in
    let begins : words_of c.phrases.rest.now ≡ c.as_str.result.now ∷ words_of c.in-Some.behind.now = ap words_of c.in-Some.ensures.cases.0 ∙ ap (λ w. w ∷ words_of c.in-Some.behind.now) (sym c.as_str.ensures.value) in
    rw (p.1, p.2) (λ _.
    phrase_fault _ _ _ _ _ c.phrases.invariant.ahead begins _ _ (here c.args.words.now c.phrases.rest.now _ c.saturating_sub.ensures) c.in_err-phrase.ensures.phrase)

pub returns-in_err-accept-clause-word : goal.returns-in_err-accept-clause-word
returns-in_err-accept-clause-word c =
    let p = err_from_is_err_and c.from_residual-in_err-accept.result c.from_residual-in_err-accept.ensures.1 in
    let begins : words_of c.phrases.rest.now ≡ c.as_str.result.now ∷ words_of c.in-Some.behind.now = ap words_of c.in-Some.ensures.cases.0 ∙ ap (λ w. w ∷ words_of c.in-Some.behind.now) (sym c.as_str.ensures.value) in
    rw (p.1, p.2) (λ m.
    place_fault _ _ _ _ _ c.phrases.invariant.ahead begins _ _ c.in_ok-phrase.ensures.phrase _ _
    (here c.args.words.now c.phrases.rest.now _ c.saturating_sub.ensures) (c.in_err-accept.ensures.taken m))

pub phrases-preserved : goal.phrases-preserved
phrases-preserved c =
    let begins : words_of c.phrases.rest.now ≡ c.as_str.result.now ∷ words_of c.in-Some.behind.now = ap words_of c.in-Some.ensures.cases.0 ∙ ap (λ w. w ∷ words_of c.in-Some.behind.now) (sym c.as_str.ensures.value) in
    record {
      ahead = ahead_more _ _ _ _ _ c.phrases.invariant.ahead begins _ _ c.in_ok-phrase.ensures.phrase _ c.in_ok-accept.ensures.taken;
      few = omega (arith, c.in_ok-phrase.ensures.shorter, c.in_ok-accept.ensures.groups, c.phrases.invariant.few, c.in-Some.ensures.cases.1);
    }

pub returns-clause-plan : goal.returns-clause-plan
returns-clause-plan c = ahead_end _ _ _ c.phrases.invariant.ahead (none_left string_bytes c.phrases.rest.now c.in_default.ensures.cases)

pub returns-clause-read : goal.returns-clause-read
returns-clause-read c = (
  c.phrases.invariant.ahead.front,
  all_read _ _ _ c.phrases.invariant.ahead (none_left string_bytes c.phrases.rest.now c.in_default.ensures.cases),
)
