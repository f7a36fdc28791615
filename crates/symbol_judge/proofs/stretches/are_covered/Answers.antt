use Rattle.std.proofs.Common.{◌∙◌, refl, sym}
use Rattle.std.proofs.lemmas.Bool.{false≢true}
use Rattle.symbol_judge.specs.Stretches.{stretches_of}
use Rattle.symbol_judge.proofs.StretchLaws.{covered_in, covered_none, covered_of}
use Rattle.symbol_judge.proofs.stretches.are_covered.Goals as goal

pub returns-then-is_empty : goal.returns-then-is_empty
returns-then-is_empty c = (
  λ t.
      covered_none (stretches_of c.args.sections.now) c.in_ok-stretches.stretches c.args.placed.now c.in_ok-stretches.ensures
      (c.is_empty.ensures.0 c.if-is_empty.true),
  λ a. refl,
)

pub returns : goal.returns
returns c = (
  λ t.
      covered_of (stretches_of c.args.sections.now) c.in_ok-stretches.stretches c.args.placed.now c.in_ok-stretches.ensures
      (c.cover_all.ensures.0 t),
  λ a.
      c.cover_all.ensures.1
      (covered_in (stretches_of c.args.sections.now) c.in_ok-stretches.stretches c.args.placed.now c.in_ok-stretches.ensures
      (λ none. false≢true (sym c.if-is_empty.false ∙ c.is_empty.ensures.1 none)) a),
)
