use Rattle.std.proofs.Common.{◌∙◌, inl, refl, sym}
use Rattle.std.proofs.lemmas.Bool.{false≢true}
use Rattle.field_judge.proofs.PlaceLaws.{neither, row_alone}
use Rattle.field_judge.proofs.rewritten.is_place_right.Goals as goal

pub returns-then-is_unchanged : goal.returns-then-is_unchanged
returns-then-is_unchanged c = λ g given. (λ t. inl ((c.is_unchanged.ensures g given).0 c.if-is_unchanged.true), λ right. refl)

pub returns-then-not-code : goal.returns-then-not-code
returns-then-not-code c = λ g given. (
  λ t. absurd (false≢true t),
  λ right.
      absurd
      (neither c.args.image.now c.args.taken.now g c.args.kind c.args.front c.args.code _
      (λ same. false≢true (sym c.if-is_unchanged.false ∙ (c.is_unchanged.ensures g given).1 same)) c.if-not-code.true right),
)

pub returns : goal.returns
returns c = λ g given.
    row_alone c.args.image.now c.args.taken.now g c.args.kind c.args.front c.args.code _ c.is_rewritten.result c.requires c.if-not-code.false
    (λ same. false≢true (sym c.if-is_unchanged.false ∙ (c.is_unchanged.ensures g given).1 same)) (c.is_rewritten.ensures g given)
