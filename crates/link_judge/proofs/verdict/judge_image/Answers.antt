use Rattle.std.proofs.Common.{◌≡◌, ◌∙◌, ℕ, List, Option, inr, refl, sym, ap, subst}
use Rattle.std.proofs.lemmas.Bool.{false≢true}
use Rattle.std.specs.Prelude.{IfSome, IsSome}
use Rattle.judge_model.specs.Headers.{IsProgram}
use Rattle.judge_model.specs.Links.{ForeignLink}
use Rattle.link_judge.proofs.verdict.judge_image.Goals as goal

pub returns-in_default : goal.returns-in_default
returns-in_default c =
    let same = sym (c.claim.view_is ∙ c.claim-claim.ensures) in
    let image = ap (λ (x : ForeignLink). x.image) same ∙ sym c.new.ensures in
    let none : ¬ IsProgram c.args.loaded.now.image =
    λ p. false≢true (subst IsSome c.in_default.is (c.in_ok-image.ensures.program.1 (subst IsProgram image p))) in
    record { fails = λ h. none h.program; told = inr (inr (inr (refl, none))); code = tt }

pub has_no_other_table-requires-clause-image : goal.has_no_other_table-requires-clause-image
has_no_other_table-requires-clause-image c =
    let same = sym (c.claim.view_is ∙ c.claim-claim.ensures) in
    let image = ap (λ (x : ForeignLink). x.image) same ∙ sym c.new.ensures in
    let found = subst (λ (o : Option (List ℕ)). IfSome o (λ m. m ≡ c.new.result)) c.in-Some.is c.in_ok-image.ensures.image in
    found ∙ sym image

pub returns-then-not-branch : goal.returns-then-not-branch
returns-then-not-branch c = λ h. false≢true (sym c.if-not-branch.true ∙ c.in_ok-has_no_other_table.ensures.1 h)
