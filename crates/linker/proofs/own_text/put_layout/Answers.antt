use Rattle.std.proofs.Common.{◌∙◌, ap, sym}
use Rattle.std.specs.Prelude.{option_map}
use Rattle.layout.specs.Placements.{Basis}
use Rattle.search.specs.Views.{loaded_views}
use Rattle.image_write.specs.Maps.{own_symtab}
use Rattle.image_write.specs.Tables.{line_of}
use Rattle.linker.specs.OwnDefinitions.{meanings_of, table_with}
use Rattle.linker.proofs.OwnTexts.{lines_put, table_line}
use Rattle.linker.proofs.own_text.put_layout.Goals as goal

pub returns : goal.returns
returns g c =
    let b = c.args.placement.now in
    let l = c.args.loaded.now in
    let ms = meanings_of c.args.definitions.now in
    let line =
    ap (option_map line_of) c.table.ensures
    ∙ (table_line l.plan.base l.objects ms l.plan.strip (table_with c.args.definitions.now) c.requires.table
    ∙ ap (λ (y : Basis). own_symtab y l.plan.strip ms) (sym c.requires.same)) in
    lines_put b l.plan.strip ms (loaded_views c.objects-objects.result.now) (option_map line_of c.table.result) _ _ _ _ _ _ _ _ _ _ _
    (c.objects-objects.ensures.exact ∙ ap (λ (y : Basis). y.objects) (sym c.requires.same)) line c.in_ok-put.ensures c.in_ok-put_objects.ensures
    c.in_ok-put_drops.ensures c.in_ok-put_places.ensures c.in_ok-put_own_commons.ensures c.in_ok-put_got.ensures c.in_ok-put_slots.ensures
    c.in_ok-put_own_symbols.ensures c.in_ok-put_table.ensures c.in_ok-put-2.ensures
