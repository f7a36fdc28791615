use Rattle.std.proofs.Common.{◌∙◌, List, subst}
use Rattle.elf_model.specs.Link.Loading.{LoadedObject}
use Rattle.relocate.specs.Values.{where_in}
use Rattle.search.specs.Views.{loaded_views}
use Rattle.flaws.specs.Flaws.{AreAdded}
use Rattle.wrong_references.specs.Entries.{entries}
use Rattle.layout_flaws.specs.LayoutFlaws.{AddsUnfit, AreUnfitValues}
use Rattle.layout_flaws.specs.declared.flaw.LayoutFlaw.{LayoutFlaw}
use Rattle.layout_flaws.proofs.EachFlaw.{unfit_each}
use Rattle.layout_flaws.proofs.Fitting.{all_fit}
use Rattle.layout_flaws.proofs.values.unfit_values.Goals as goal

pub returns-clause-all : goal.returns-clause-all
returns-clause-all c =
    let b = c.args.placement.now in
    let w = where_in b in
    let flaws = c.add_all_values.new.flaws.items in
    let some = c.new-flaws.result.items in
    let views = loaded_views c.objects.result.now in
    subst (λ (s : List LayoutFlaw). AreAdded (AddsUnfit b.objects w) (entries b.objects) s flaws) c.new-flaws.ensures.items
    (subst (λ (os : List LoadedObject). AreAdded (AddsUnfit b.objects w) (entries os) some flaws) (c.objects.ensures.exact ∙ c.requires.loaded)
    (subst (λ (os : List LoadedObject). AreAdded (AddsUnfit os w) (entries views) some flaws) c.requires.resolved c.in_ok-add_all_values.ensures))

pub returns-clause-each : goal.returns-clause-each
returns-clause-each c =
    let b = c.args.placement.now in
    let w = where_in b in
    let flaws = c.add_all_values.new.flaws.items in
    let some = c.new-flaws.result.items in
    let views = loaded_views c.objects.result.now in
    unfit_each b flaws
    (subst (λ (s : List LayoutFlaw). AreAdded (AddsUnfit b.objects w) (entries b.objects) s flaws) c.new-flaws.ensures.items
    (subst (λ (os : List LoadedObject). AreAdded (AddsUnfit b.objects w) (entries os) some flaws) (c.objects.ensures.exact ∙ c.requires.loaded)
    (subst (λ (os : List LoadedObject). AreAdded (AddsUnfit os w) (entries views) some flaws) c.requires.resolved c.in_ok-add_all_values.ensures)))

pub returns-clause-none : goal.returns-clause-none
returns-clause-none c =
    let b = c.args.placement.now in
    let w = where_in b in
    let flaws = c.add_all_values.new.flaws.items in
    let some = c.new-flaws.result.items in
    let views = loaded_views c.objects.result.now in
    all_fit b flaws
    (subst (λ (s : List LayoutFlaw). AreAdded (AddsUnfit b.objects w) (entries b.objects) s flaws) c.new-flaws.ensures.items
    (subst (λ (os : List LoadedObject). AreAdded (AddsUnfit b.objects w) (entries os) some flaws) (c.objects.ensures.exact ∙ c.requires.loaded)
    (subst (λ (os : List LoadedObject). AreAdded (AddsUnfit os w) (entries views) some flaws) c.requires.resolved c.in_ok-add_all_values.ensures)))
