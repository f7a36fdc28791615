use Rattle.std.proofs.Common.{List, ap, subst, sym, ◌∙◌}
use Rattle.layout.specs.Placements.{Basis}
use Rattle.relocate.proofs.ObjectRows.{row_has_fields, row_rises}
use Rattle.reloc_values.specs.Patches.{IsRising}
use Rattle.relocate.specs.Values.{HasFields, row_in, where_in}
use Rattle.relocate.specs.declared.object_rows.ObjectPatches.{ObjectPatches}
use Rattle.relocate.proofs.patch_table.row_of.Goals as goal

pub returns-clause-rising : goal.returns-clause-rising
returns-clause-rising c =
    let k = c.args.section.object.0 in
    let s = c.args.section.section in
    let inside = c.patches.inside in
    let row = c.row_in.ensures ∙ ap (λ (rows : List ObjectPatches). row_in rows k s) c.deref.ensures.value in
    subst IsRising (sym row) (row_rises (record { base = inside.base; objects = inside.loaded.objects }) inside.rows.items k s c.patches.invariant)

pub returns-clause-fields : goal.returns-clause-fields
returns-clause-fields c =
    let k = c.args.section.object.0 in
    let s = c.args.section.section in
    let inside = c.patches.inside in
    let row = c.row_in.ensures ∙ ap (λ (rows : List ObjectPatches). row_in rows k s) c.deref.ensures.value in
    subst (λ (b : Basis). HasFields b.objects (where_in b) k s c.row_in.result.now) c.patches.view_is
    (subst (HasFields inside.loaded.objects (where_in (record { base = inside.base; objects = inside.loaded.objects })) k s) (sym row)
    (row_has_fields (record { base = inside.base; objects = inside.loaded.objects }) inside.rows.items k s c.patches.invariant))
