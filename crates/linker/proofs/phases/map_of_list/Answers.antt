use Rattle.std.proofs.Common.{◌∙◌, ap, subst, sym}
use Rattle.std.specs.Prelude.{All}
use Rattle.elf_model.specs.Own.ImageFile.{IsOwnMap, own_end}
use Rattle.elf_model.specs.Image.MapRecord.{map_of}
use Rattle.elf_model.specs.declared.link_map.LinkMap.{LinkMap}
use Rattle.elf_model.specs.Link.Pieces.{AreLawfulKinds}
use Rattle.elf_model.proofs.Listed.{All-unmap}
use Rattle.layout.specs.Placements.{Basis}
use Rattle.elf_model.specs.Own.OwnLayout.{IsNotTooLarge, own_in_load_order}
use Rattle.resolve.specs.Views.{meaning_view, meaning_views}
use Rattle.resolve.specs.declared.definition.Definition as code
use Rattle.search.specs.Loads.{LoadedPlan}
use Rattle.image_write.specs.Listings.{IsListing}
use Rattle.image_write.specs.Maps.{IsMapOf, LiesWithin, own_table}
use Rattle.image_write.specs.Tables.{HasTable}
use Rattle.linker.proofs.Links.{ok_more}
use Rattle.linker.proofs.OwnMaps.{own_map, symbols_rise}
use Rattle.linker.proofs.Values.{meanings_lie}
use Rattle.linker.proofs.phases.map_of_list.Goals as goal

pub map_of_layout-requires-clause-inside : goal.map_of_layout-requires-clause-inside
map_of_layout-requires-clause-inside c =
    let l = c.args.linkage.now in
    let made = c.parts-parts.ensures.parts in
    let listed = c.args.listed.now in
    subst (λ (b : Basis). All (λ (m : code.Definition). LiesWithin (own_in_load_order b.base b.objects) (meaning_view m)) listed) (sym made.placed)
    (All-unmap (LiesWithin (own_in_load_order l.plan.base l.objects)) meaning_view listed
    (meanings_lie l.plan.base l.objects made.kinds made.not_too_large c.requires.listed.sound (meaning_views listed) c.requires.listed.listed))

pub map_of_layout-requires-clause-slots : goal.map_of_layout-requires-clause-slots
map_of_layout-requires-clause-slots c =
    let made = c.parts-parts.ensures.parts in
    made.table ∙ ap (λ (b : Basis). own_table b.objects) (sym made.placed)

pub map_of_layout-requires-clause-fits : goal.map_of_layout-requires-clause-fits
map_of_layout-requires-clause-fits c =
    let made = c.parts-parts.ensures.parts in
    subst (λ (b : Basis). IsNotTooLarge b.base b.objects) (sym made.placed) made.not_too_large

pub map_of_layout-requires-clause-kinds : goal.map_of_layout-requires-clause-kinds
map_of_layout-requires-clause-kinds c =
    let made = c.parts-parts.ensures.parts in
    subst (λ (b : Basis). AreLawfulKinds b.objects) (sym made.placed) made.kinds

pub map_of_layout-requires-clause-table : goal.map_of_layout-requires-clause-table
map_of_layout-requires-clause-table c =
    subst (λ (q : LoadedPlan). HasTable q.objects (own_end q.plan.base q.objects) (meaning_views c.args.listed.now) q.plan.strip c.args.table)
    (sym c.loaded.ensures) c.requires.table

pub returns : goal.returns
returns c =
    let l = c.args.linkage.now in
    let made = c.parts-parts.ensures.parts in
    let b = c.parts-parts.result.now.placement in
    let ms = meaning_views c.args.listed.now in
    let d : IsListing b.objects c.args.listed.now = subst (λ (y : Basis). IsListing y.objects c.args.listed.now) (sym made.placed) c.requires.listed in
    let strip = c.loaded.result.now.plan.strip in
    ok_more (λ (m : LinkMap). IsMapOf b strip ms (map_of m))
    (λ (m : LinkMap). IsOwnMap l.plan.base l.objects l.plan.strip (map_of m)) c.map_of_layout.result c.map_of_layout.ensures
    (λ m is.
    subst (λ (q : LoadedPlan). IsOwnMap l.plan.base l.objects q.plan.strip (map_of m)) c.loaded.ensures
    (subst (λ (y : Basis). IsOwnMap y.base y.objects strip (map_of m)) made.placed
    (own_map b strip ms (map_of m) is d.listed (symbols_rise b c.args.listed.now d))))
