use Rattle.std.proofs.Common.{◌≡◌, ◌∙◌, true, false, subst, sym}
use Rattle.std.proofs.lemmas.Bool.{false≢true}
use Rattle.search.specs.Views.{loaded_view}
use Rattle.search.specs.declared.loaded.LoadedObject as code
use Rattle.layout.specs.Kinds.{HasLawfulKinds}
use Rattle.elf_model.proofs.Rests.{all_end, all_more, all_stop}
use Rattle.layout.proofs.section_kinds.are_lawful_objects.Goals as goal

pub loop-loaded-preserved : goal.loop-loaded-preserved
loop-loaded-preserved c =
    all_more _ (λ (o : code.LoadedObject). HasLawfulKinds (loaded_view o)) c.args.objects.now c.loop-loaded.loaded-index c.loaded-item.result c.loop-loaded-test.true
    (subst (λ (o : code.LoadedObject). HasLawfulKinds (loaded_view o)) c.loaded-item.is (c.is_lawful_object.ensures.0 c.if-not-is_lawful_object.false))
    c.loop-loaded.invariant

pub returns-then-not-is_lawful_object : goal.returns-then-not-is_lawful_object
returns-then-not-is_lawful_object c = (
  λ e. absurd (let f : false ≡ true = e in cc),
  λ h. absurd
      (all_stop _ (λ (o : code.LoadedObject). HasLawfulKinds (loaded_view o)) c.args.objects.now c.loop-loaded.loaded-index c.loaded-item.result c.loop-loaded-test.true
      (λ here.
      false≢true
      (sym c.if-not-is_lawful_object.true
      ∙ c.is_lawful_object.ensures.1 (subst (λ (o : code.LoadedObject). HasLawfulKinds (loaded_view o)) (sym c.loaded-item.is) here)))
      c.loop-loaded.invariant h),
)

pub returns : goal.returns
returns c = (
  λ e. all_end _ (λ (o : code.LoadedObject). HasLawfulKinds (loaded_view o)) c.args.objects.now c.loop-loaded.loaded-index c.loop-loaded-test.false c.loop-loaded.invariant,
  λ h. cc,
)
