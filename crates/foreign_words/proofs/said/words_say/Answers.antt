use Rattle.std.proofs.Common.{◌≡◌, ◌∙◌, ◌∷◌, [], List, ap, subst, sym}
use Rattle.std.specs.Prelude.{All}
use Rattle.std.proofs.lemmas.List.{map-append}
use Rattle.std.proofs.lemmas.List.Elements.{All-push}
use Rattle.elf_model.specs.Inputs.Files.{words_of}
use Rattle.judge_model.specs.Words.{Says, said}
use Rattle.foreign_words.specs.Says.{says_view, says_views}
use Rattle.foreign_words.specs.Sound.{IsSound}
use Rattle.foreign_words.proofs.SaidSteps.{one_more}
use Rattle.foreign_words.proofs.said.words_say.Goals as goal

pub words-preserved : goal.words-preserved
words-preserved c =
    let s = c.in-Some-first_says.says in
    let begins : words_of c.words.rest.now ≡ c.as_str.result.now ∷ words_of c.in-Some.behind.now =
    ap words_of c.in-Some.ensures.cases.0 ∙ ap (λ w. w ∷ words_of c.in-Some.behind.now) (sym c.as_str.ensures.value) in
    let items = c.in_ok-push.ensures.items in
    record {
      exact = one_more _ _ s _ _ _ items (ap said begins ∙ c.in-Some-first_says.ensures.some) c.words.invariant.exact;
      sound =
          subst (λ (xs : List Says). All IsSound xs) (sym (ap says_views items ∙ map-append says_view c.words.said.items (s ∷ [])))
          (All-push IsSound (says_views c.words.said.items) (says_view s) c.words.invariant.sound c.in-Some-first_says.ensures.sound);
    }
