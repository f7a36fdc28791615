use Rattle.std.proofs.Common.{◌≡◌, ◌∙◌, ap, subst, sym}
use Rattle.elf_model.specs.Inputs.Command.{HasPlan, Plan, plan_of_phrases}
use Rattle.elf_model.specs.Inputs.Files.{words_of}
use Rattle.judge_model.specs.Words.{IsAsked, phrases_of}
use Rattle.foreign_words.specs.Wider.{plan_with}
use Rattle.foreign_words.proofs.spoken.Spoken.plan.Goals as goal

pub returns-in-Ok : goal.returns-in-Ok
returns-in-Ok c = λ words s.
    let plan = plan_of_phrases (phrases_of s.says) in
    let has = subst (λ ws. HasPlan (words_of ws) plan) (sym c.deref.ensures.value) s.has in
    let same : c.in-Ok.plan ≡ plan = c.in-Ok.ensures.only plan has in
    subst (IsAsked words) (sym (ap (λ (p : Plan). plan_with p c.args.self.now.wider) same ∙ s.wider)) s.asked
