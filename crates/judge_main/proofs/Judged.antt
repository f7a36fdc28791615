-- What a judgement says of a link is what is said of it, and a right link has the status of one.
use Rattle.std.proofs.Common.{◌≡◌, ℕ, List, arith, ap, inl, inr, refl, subst, sym, ◌∙◌}
use Rattle.std.specs.Prelude.{◌↔◌, Option}
use Rattle.std.proofs.lemmas.Option.{same_Some}
use Rattle.elf_model.specs.Inputs.Files.{File}
use Rattle.judge_model.specs.Certificates.{CertificateRecord}
use Rattle.judge_model.specs.Links.{ForeignLink}
use Rattle.judge_model.specs.Plans.{ForeignPlan}
use Rattle.judge_model.specs.RightForeign.{IsShown}
use Rattle.judge_model.specs.Words.{IsAsked, plan_said}
use Rattle.judge_model.specs.declared.judgement.Requirement.TheVariants.{F5, F7}
use Rattle.link_judge.specs.Judged.{IsReason, link_of, requirement_of}
use Rattle.link_judge.specs.declared.judgement.Judgement.{Judgement}
use Rattle.link_judge.specs.declared.judgement.Judgement.TheVariants.{No, NoAt, NotJudged, Yes}
use Rattle.link_judge.specs.declared.judgement.Reason.{Reason}
use Rattle.link_judge.specs.declared.judgement.Reason.TheVariants as reason
use Rattle.judge_main.specs.Opinions.{HasRightForeign, IsOpinion, SaysSome, opinion_of, opinion_status}
use Rattle.judge_main.specs.declared.answer.Answer.{Answer}
use Rattle.judge_main.specs.declared.opinion.Opinion.{Opinion}
use Rattle.judge_main.specs.declared.opinion.Opinion.TheVariants.{OtherWords, Right, Unjudged, Wrong, WrongAt}
use Rattle.link_judge.specs.Judged.{IsJudgedBy}

-- words ask for one plan
same_plan : (words : List (List ℕ)) (p q : ForeignPlan) → IsAsked words p → IsAsked words q → p ≡ q
same_plan words p q a b = a.plan_is ∙ (ap plan_said (same_Some a.says b.says (sym a.said_is ∙ b.said_is)) ∙ sym b.plan_is)

-- a link that is shown has no reason why it isn't judged
unjudged : (r : Reason) (l : ForeignLink) → IsReason r l → IsShown l → ⊥
unjudged reason.Unreadable l why shown = why shown.judged.readable
unjudged reason.Objects l why shown =
    why (record { compiled = shown.judged.compiled; unique = shown.judged.unique; commons = shown.judged.commons })
unjudged reason.Arrays l why shown = why shown.judged.arrays
unjudged reason.Edited l why shown = why shown.judged.unedited
unjudged reason.Records l why shown = why shown.judged.framed
unjudged reason.Joined l why shown = why shown.judged.joined
unjudged reason.Mixed l why shown = why shown.judged.unmixed
unjudged reason.Fields l why shown =
    why (record { inside = shown.judged.inside; apart = shown.judged.apart; whole = shown.judged.whole })
unjudged reason.Frames l why shown = why shown.judged.untabled
unjudged reason.Code l (shared, inl fields) shown = fields (shown.holds F5)
unjudged reason.Code l (shared, inr rests) shown = rests (shown.holds F7)

module _ (words : List (List ℕ)) (files : List File) (image : List ℕ) (certificate : CertificateRecord) where
  pub said_of_judged : (j : Judgement) → IsJudgedBy words files image certificate j → IsOpinion words files image certificate (opinion_of j)
  said_of_judged Yes judged = judged
  said_of_judged (No f) judged = judged
  said_of_judged (NoAt place) judged = judged
  said_of_judged (NotJudged r) judged = judged

  -- the status of a right link is said exactly of one
  pub right_where_shown :
      (o : Opinion) → IsOpinion words files image certificate o → (p : ForeignPlan) → IsAsked words p →
      (opinion_status o ≡ 0) ↔ IsShown (link_of files p image certificate)
  right_where_shown Right is p asked = (
    λ zero. subst (λ (q : ForeignPlan). IsShown (link_of files q image certificate)) (same_plan words is.plan p is.asked asked) is.judges,
    λ shown. refl,
  )
  right_where_shown (Wrong f) is p asked = (
    λ zero. absurd (omega (arith, zero)),
    λ shown. absurd
        (is.judges.fails
        ((subst (λ (q : ForeignPlan). IsShown (link_of files q image certificate)) (same_plan words p is.plan asked is.asked) shown).holds f)),
  )
  right_where_shown (WrongAt place) is p asked = (
    λ zero. absurd (omega (arith, zero)),
    λ shown. absurd
        (is.judges.requirement.fails
        ((subst (λ (q : ForeignPlan). IsShown (link_of files q image certificate)) (same_plan words p is.plan asked is.asked) shown).holds
        (requirement_of place))),
  )
  right_where_shown (Unjudged r) is p asked = (
    λ zero. absurd (omega (arith, zero)),
    λ shown. absurd
        (unjudged r (link_of files p image certificate)
        (subst (λ (q : ForeignPlan). IsReason r (link_of files q image certificate)) (same_plan words is.plan p is.asked asked) is.judges)
        shown),
  )
  right_where_shown OtherWords is p asked = (λ zero. absurd (omega (arith, zero)), λ shown. absurd (is p asked))

  right_of_opinion : (o : Opinion) → IsOpinion words files image certificate o → opinion_status o ≡ 0 → HasRightForeign words
  right_of_opinion Right is zero = (files, (image, record { plan = is.plan; asked = is.asked; certificate = certificate; shown = is.judges }))
  right_of_opinion (Wrong f) is zero = absurd (omega (arith, zero))
  right_of_opinion (WrongAt place) is zero = absurd (omega (arith, zero))
  right_of_opinion (Unjudged r) is zero = absurd (omega (arith, zero))
  right_of_opinion OtherWords is zero = absurd (omega (arith, zero))

pub right_of_said : (words : List (List ℕ)) (a : Answer) (old new : Option (List ℕ)) → SaysSome words a old new → a.status ≡ 0 → HasRightForeign words
right_of_said words a old new said zero =
    let there = said.1 in
    let says = there.2 in
    right_of_opinion words there.0 there.1 said.0 says.opinion says.judged (sym says.status_is ∙ zero)
