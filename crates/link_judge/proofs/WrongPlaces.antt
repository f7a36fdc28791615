-- Where a requirement fails at a place, it fails; and what is said there.
use Rattle.std.proofs.Common.{◌⊎◌, inl, inr}
use Rattle.std.proofs.lemmas.List.Elements.{All-contains}
use Rattle.judge_model.specs.Fields.{HoldsRest, IsFieldRight}
use Rattle.judge_model.specs.Links.{ForeignLink, placed_of, relocations_of}
use Rattle.judge_model.specs.RightForeign.{Holds, IsJudged}
use Rattle.judge_model.specs.declared.judgement.Requirement.TheVariants.{F5, F7}
use Rattle.link_judge.specs.Judged.{FailsAt, HasSharedThreadCode, HoldsBefore, IsCodePlain, IsWrongAt, requirement_of}
use Rattle.link_judge.specs.declared.judgement.Place.{Place}
use Rattle.link_judge.specs.declared.judgement.Place.TheVariants.{Field, Rest}

module _ (l : ForeignLink) where
  fails_at : (p : Place) → IsWrongAt p l → ¬ Holds (requirement_of p) l
  fails_at (Field w) wrong h = wrong.denied (All-contains (IsFieldRight l) (relocations_of l) wrong.one h wrong.among)
  fails_at (Rest w) wrong h = wrong.denied (All-contains (HoldsRest l) (placed_of l) wrong.one h wrong.among)

  plain_at : (p : Place) → ¬ HasSharedThreadCode l → IsCodePlain (requirement_of p) l
  plain_at (Field w) none = none
  plain_at (Rest w) none = none

  pub fields_or_rests : (p : Place) → IsWrongAt p l → (¬ Holds F5 l) ⊎ (¬ Holds F7 l)
  fields_or_rests (Field w) wrong = inl (fails_at (Field w) wrong)
  fields_or_rests (Rest w) wrong = inr (fails_at (Rest w) wrong)

  pub told_at : (p : Place) → IsJudged l → HoldsBefore (requirement_of p) l → IsWrongAt p l → ¬ HasSharedThreadCode l → FailsAt p l
  told_at p judged before wrong none = record {
    requirement = record { fails = fails_at p wrong; told = inl (record { judged = judged; before = before }); code = plain_at p none };
    wrong = wrong;
  }
