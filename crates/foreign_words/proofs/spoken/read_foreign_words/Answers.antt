use Rattle.std.proofs.Common.{◌≡◌, ◌∙◌, Some, ap, false, subst, sym, true}
use Rattle.std.specs.Prelude.{All, IfSome}
use Rattle.std.specs.Option.{option_map}
use Rattle.elf_model.specs.Inputs.Command.{HasPlan, plan_of_phrases}
use Rattle.elf_model.specs.Inputs.Files.{words_of}
use Rattle.judge_model.specs.Words.{phrases_of, said}
use Rattle.foreign_words.specs.Says.{says_views}
use Rattle.foreign_words.specs.Sound.{IsSound}
use Rattle.foreign_words.specs.Spelled.{is_command, spelling}
use Rattle.foreign_words.specs.Wider.{IsWider}
use Rattle.foreign_words.proofs.Plans.{asked, has_plan, not_asked}
use Rattle.foreign_words.proofs.spoken.read_foreign_words.Goals as goal

pub returns-then-not-is_command-clause-none : goal.returns-then-not-is_command-clause-none
returns-then-not-is_command-clause-none c = λ e p a.
    let ss = says_views c.in-Some.all.items in
    let is : said (words_of c.args.words.now) ≡ Some ss = sym c.in_ok-all.ensures.exact ∙ ap (option_map (λ v. says_views v.items)) c.in-Some.is in
    let bad : is_command ss ≡ false = ap (λ xs. is_command (says_views xs)) (sym c.deref.ensures.value) ∙ (sym c.is_command.ensures ∙ c.if-not-is_command.true) in
    not_asked (words_of c.args.words.now) ss is bad p a

pub returns-clause-whole : goal.returns-clause-whole
returns-clause-whole c =
    let ss = says_views c.in-Some.all.items in
    let good : is_command ss ≡ true = ap (λ xs. is_command (says_views xs)) (sym c.deref.ensures.value) ∙ (sym c.is_command.ensures ∙ c.if-not-is_command.false) in
    let sound = subst (λ o. IfSome o (λ v. All IsSound (says_views v.items))) c.in-Some.is c.in_ok-all.ensures.sound in
    let words : words_of c.in_ok-spelled_words.field-0.items ≡ spelling ss = c.in_ok-spelled_words.ensures ∙ ap (λ xs. spelling (says_views xs)) c.deref-2.ensures.value in
    record {
      plan = plan_of_phrases (phrases_of ss);
      has = subst (λ ws. HasPlan ws (plan_of_phrases (phrases_of ss))) (sym words) (has_plan ss sound good);
    }

pub returns-clause-some : goal.returns-clause-some
unfolding returns-clause-whole
returns-clause-some c =
    let ss = says_views c.in-Some.all.items in
    let is : said (words_of c.args.words.now) ≡ Some ss = sym c.in_ok-all.ensures.exact ∙ ap (option_map (λ v. says_views v.items)) c.in-Some.is in
    let good : is_command ss ≡ true = ap (λ xs. is_command (says_views xs)) (sym c.deref.ensures.value) ∙ (sym c.is_command.ensures ∙ c.if-not-is_command.false) in
    let whole = returns-clause-whole c in
    record {
      says = ss;
      asked = asked (words_of c.args.words.now) ss is good;
      has = whole.has;
      wider = subst (λ xs. IsWider (says_views xs) c.in_ok-wider_of.field-0) c.deref-3.ensures.value c.in_ok-wider_of.ensures;
    }
