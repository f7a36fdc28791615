use Rattle.std.proofs.Common.{◌≡◌, arith, length, map, rules, ◌∙◌}
use Rattle.std.specs.Vec.{with_items}
use Rattle.std.proofs.lemmas.List.{with_items_is}
use Rattle.relocate.proofs.RelaOrders.{row_section}
use Rattle.relocate.proofs.RowSteps.{begins_more, row_put, rows_more}
use Rattle.search.specs.KeptLists.{relocations_of_relas}
use Rattle.relocate.specs.SymbolTables.{all_valued, valued_object, where_of}
use Rattle.relocate.specs.Values.{patch_of}
use Rattle.relocate.proofs.object_patches.add_row.Goals as goal

pub returns-clause-rows : goal.returns-clause-rows
returns-clause-rows c = λ done rows.
    let n = c.args.valued.now.number in
    let o = valued_object c.args.valued.now in
    let L = all_valued c.args.valued.now in
    let w = where_of c.args.valued.now in
    let here = relocations_of_relas n o c.args.relas.now in
    let own = c.args.rows.now in
    let fs = map (patch_of L w) here in
    let at : c.len-begin.result ≡ length own.patches.items = search rules in
    let fresh = with_items c.add_sections.new.patches c.order_from.new.patches in
    let written : fresh.items ≡ c.order_from.new.patches = with_items_is c.add_sections.new.patches c.order_from.new.patches (c.order_from.auto.patches ∙ c.deref_mut.ensures.len) in
    let end : c.len.result ≡ length fresh.items = search rules in
    let put =
    row_put own.patches.items fs c.deref_mut.result.now c.order_from.new.patches c.len-begin.result c.order_from.ensures
    (c.deref_mut.ensures.value ∙ c.in_ok-add_sections.ensures.patches) at in
    rows_more L w done here own (record { patches = fresh; begins = c.push.new.self }) c.args.target c.order_from.ensures.row c.requires.later
    (begins_more own.begins.items c.resize.new.self.items c.push.new.self.items c.args.target _ c.len-begin.result c.len.result (length own.patches.items) (length fresh.items)
    c.requires.later c.in_ok-resize.ensures.items (omega arith) c.in_ok-push.ensures.items at end)
    (written ∙ put.0) (row_section n o c.args.target c.args.relas.now c.requires.kept c.requires.target) put.1 rows
