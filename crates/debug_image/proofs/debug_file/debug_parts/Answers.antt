use Rattle.std.proofs.Common.{◌≡◌, ◌≤◌, ◌^◌, ◌++◌, ◌∙◌, List, ℕ, ap, refl, subst}
use Rattle.elf_model.specs.Link.Loading.{LoadedObject}
use Rattle.resolve.specs.Views.{meaning_views}
use Rattle.search.specs.Loads.{LoadedPlan}
use Rattle.debug_image.specs.DebugImage.{end_in, joined_in, rows_in, tables_with}
use Rattle.debug_image.specs.DebugSections.{AreLow, Joined, data_end}
use Rattle.debug_image.specs.DebugViews.{joined_views}
use Rattle.debug_image.specs.PlainImages.{plain_of}
use Rattle.debug_image.specs.Tables.{IsSmall}
use Rattle.debug_image.specs.Views.{tables_view}
use Rattle.debug_image.specs.declared.joined.Joined as code
use Rattle.debug_image.proofs.LinkImages.{file_mapped, plain_is_image}
use Rattle.debug_image.proofs.LinkTables.{few_of}
use Rattle.debug_image.proofs.debug_file.debug_parts.Goals as goal

pub returns-clause-said : goal.returns-clause-said
returns-clause-said c =
    let w = c.args.wanted in
    let l = c.args.linkage.now in
    let ms = meaning_views c.args.names.now in
    let same = c.objects.ensures.exact ∙ ap (λ (p : LoadedPlan). p.objects) c.loaded-loaded.ensures in
    record {
      small =
          subst IsSmall
          (c.in_ok-tables.ensures
          ∙ ap (λ (js : List code.Joined). tables_with w.locals l.plan.base l.objects (joined_views js) ms) c.deref.ensures.value
          ∙ ap (λ (js : List Joined). tables_with w.locals l.plan.base l.objects js ms)
          (c.in_ok-data.ensures.joined ∙ ap (λ (os : List LoadedObject). joined_in w os) same))
          (c.if-not-are_small.ensures.0 refl);
      few = record {
        low = subst AreLow (c.in_ok-data.ensures.rows ∙ ap (λ (os : List LoadedObject). rows_in w os) same) c.in_ok-data.ensures.ends;
        few = few_of c.in_ok-data.data.joined.items _ (c.in_ok-data.ensures.joined ∙ ap (λ (os : List LoadedObject). joined_in w os) same) c.in_ok-data.ensures.few;
      };
    }

pub returns-clause-plain : goal.returns-clause-plain
returns-clause-plain c = λ strip rest.
    let e = c.parts-parts.ensures in
    ap (λ (front : List ℕ). plain_of (front ++ rest)) c.in_ok-parts.ensures.front
    ∙ plain_is_image c.args.linkage.now c.parts-parts.result.now e.parts e.listed (tables_view c.in_ok-tables.tables)
    (data_end (end_in c.args.linkage.now) (joined_views c.in_ok-data.data.joined.items)) rest (c.if-not-are_small.ensures.0 refl)
    c.in_ok-parts.ensures.low strip

pub returns-clause-mapped : goal.returns-clause-mapped
returns-clause-mapped c =
    let w = c.args.wanted in
    let l = c.args.linkage.now in
    let e = c.parts-parts.ensures in
    let same = c.objects.ensures.exact ∙ ap (λ (p : LoadedPlan). p.objects) c.loaded-loaded.ensures in
    let joined : joined_views c.in_ok-data.data.joined.items ≡ joined_in w l.objects =
    c.in_ok-data.ensures.joined ∙ ap (λ (os : List LoadedObject). joined_in w os) same in
    file_mapped l c.parts-parts.result.now e.parts e.listed w (meaning_views c.args.names.now) (returns-clause-said c).small
    (subst (λ (js : List Joined). data_end (end_in l) js ≤ 2 ^ 58) joined c.in_ok-parts.ensures.low)
