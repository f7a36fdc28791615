use Rattle.std.proofs.Common.{refl, subst, sym}
use Rattle.std.specs.Prelude.{All}
use Rattle.std.specs.Io.KnownBytes.{Appends}
use Rattle.std.proofs.lemmas.Result.{on_ok_weaker}
use Rattle.elf_model.specs.Own.ImageFile.{own_end}
use Rattle.elf_model.specs.Image.MapText.{text}
use Rattle.elf_model.specs.Own.OwnLayout.{own_in_load_order}
use Rattle.layout.specs.Placements.{Basis}
use Rattle.search.specs.Loads.{LoadedPlan}
use Rattle.image_write.specs.Maps.{LiesWithin, own_record}
use Rattle.image_write.specs.Tables.{HasTable}
use Rattle.linker.specs.OwnDefinitions.{meanings_of, table_with}
use Rattle.linker.proofs.OwnSpelled.{is_own_text}
use Rattle.linker.proofs.Values.{meanings_lie}
use Rattle.linker.proofs.own_text.put_map.Goals as goal

pub put_layout-requires-clause-inside : goal.put_layout-requires-clause-inside
put_layout-requires-clause-inside g c =
    let l = c.args.linkage.now in
    let made = c.parts-parts.ensures.parts in
    let d = c.in_ok-definitions.definitions in
    subst (λ (b : Basis). All (LiesWithin (own_in_load_order b.base b.objects)) (meanings_of d)) (sym made.placed)
    (meanings_lie l.plan.base l.objects made.kinds made.not_too_large c.in_ok-definitions.ensures.sound (meanings_of d) c.in_ok-definitions.ensures.order.listed)

pub put_layout-requires-clause-table : goal.put_layout-requires-clause-table
put_layout-requires-clause-table g c =
    let d = c.in_ok-definitions.definitions in
    subst (λ (q : LoadedPlan). HasTable q.objects (own_end q.plan.base q.objects) (meanings_of d) q.plan.strip (table_with d)) (sym c.loaded.ensures)
    c.in_ok-definitions.ensures.table

pub returns : goal.returns
returns g c =
    let l = c.args.linkage.now in
    let made = c.parts-parts.ensures.parts in
    let ms = meanings_of c.in_ok-definitions.definitions in
    let b = c.parts-parts.result.now.placement in
    let q = c.loaded.result.now in
    on_ok_weaker c.put_layout.result
    (λ (put : Appends (g.T.LineSink.told c.args.text.now) (g.T.LineSink.told c.put_layout.new.text) (text (own_record b q.plan.strip ms))).
    (text (own_record b q.plan.strip ms), is_own_text l b q ms (text (own_record b q.plan.strip ms)) made.placed c.loaded.ensures c.in_ok-definitions.ensures.order made.spelled refl, put))
    c.put_layout.ensures
