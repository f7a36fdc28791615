use Rattle.std.proofs.Common.{ℕ, List, subst, sym, ◌∙◌}
use Rattle.std.specs.Prelude.{All}
use Rattle.std.proofs.lemmas.Bool.{false≢true}
use Rattle.elf_model.specs.Inputs.ObjectFile.{section, sections}
use Rattle.elf_model.specs.Link.Pieces.{IsLawfulKind}
use Rattle.elf_model.proofs.Rests.{all_end, all_more, all_stop}
use Rattle.layout.proofs.section_kinds.is_lawful_object.Goals as goal

abbrev IsLawfulAt : List ℕ → ℕ → Type 0
IsLawfulAt bytes i = IsLawfulKind (section (sections bytes) i)

pub loop-section-preserved : goal.loop-section-preserved
loop-section-preserved c =
    all_more _ (IsLawfulAt c.args.loaded.now.object) c.kept_sections-sections.result.now c.loop-section.section-index 0 c.loop-section-test.true
    (subst IsLawfulKind c.section.ensures (c.is_lawful_kind.ensures.0 c.if-not-is_lawful_kind.false)) c.loop-section.invariant

pub returns-then-not-is_lawful_kind : goal.returns-then-not-is_lawful_kind
returns-then-not-is_lawful_kind c = (
  λ e. absurd (false≢true e),
  λ kinds. absurd
      (all_stop _ (IsLawfulAt c.args.loaded.now.object) c.kept_sections-sections.result.now c.loop-section.section-index 0 c.loop-section-test.true
      (λ here. false≢true (sym c.if-not-is_lawful_kind.true ∙ c.is_lawful_kind.ensures.1 (subst IsLawfulKind (sym c.section.ensures) here)))
      c.loop-section.invariant (subst (All (IsLawfulAt c.args.loaded.now.object)) (sym c.kept_sections-sections.ensures.exact) kinds.each)),
)

pub returns : goal.returns
returns c = (
  λ e. record {
    each =
        subst (All (IsLawfulAt c.args.loaded.now.object)) c.kept_sections-sections.ensures.exact
        (all_end _ (IsLawfulAt c.args.loaded.now.object) c.kept_sections-sections.result.now c.loop-section.section-index c.loop-section-test.false c.loop-section.invariant);
  },
  λ kinds. cc,
)
