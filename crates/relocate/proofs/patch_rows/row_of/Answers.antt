use Rattle.std.proofs.Common.{IfErr, IfOk, subst}
use Rattle.std.specs.Prelude.{All, OnOk}
use Rattle.elf_model.specs.Link.Relocation.{relocations_from}
use Rattle.elf_model.specs.Link.RelocationValues.{Fits}
use Rattle.layout.specs.Placements.{Basis}
use Rattle.search.specs.Views.{loaded_view}
use Rattle.relocate.specs.SymbolTables.{all_valued, valued_object}
use Rattle.relocate.specs.Values.{ArePatchRows, FittingFails, where_in}
use Rattle.relocate.proofs.SymbolTables.{moved}
use Rattle.relocate.proofs.patch_rows.row_of.Goals as goal

pub returns-clause-rows : goal.returns-clause-rows
returns-clause-rows c =
    let v = c.in_ok-valued.valued in
    moved (λ os n o. IfOk c.object_patches.result (ArePatchRows os (where_in c.args.placement.now) (relocations_from n o))) (all_valued v) c.args.resolved.now v.number c.args.number
    (valued_object v) (loaded_view c.args.loaded.now) c.in_ok-valued.ensures.all c.in_ok-valued.ensures.number c.in_ok-valued.ensures.own
    (subst (λ (b : Basis). IfOk c.object_patches.result (ArePatchRows (all_valued v) (where_in b) (relocations_from v.number (valued_object v)))) c.in_ok-valued.ensures.placed
    c.object_patches.ensures.rows)

pub returns-clause-fit : goal.returns-clause-fit
returns-clause-fit c =
    let v = c.in_ok-valued.valued in
    moved (λ os n o. OnOk c.object_patches.result (All (Fits os (where_in c.args.placement.now)) (relocations_from n o))) (all_valued v) c.args.resolved.now v.number c.args.number
    (valued_object v) (loaded_view c.args.loaded.now) c.in_ok-valued.ensures.all c.in_ok-valued.ensures.number c.in_ok-valued.ensures.own
    (subst (λ (b : Basis). OnOk c.object_patches.result (All (Fits (all_valued v) (where_in b)) (relocations_from v.number (valued_object v)))) c.in_ok-valued.ensures.placed
    c.object_patches.ensures.fit)

pub returns-clause-fault : goal.returns-clause-fault
returns-clause-fault c =
    let v = c.in_ok-valued.valued in
    moved (λ os n o. IfErr c.object_patches.result (FittingFails os (where_in c.args.placement.now) (relocations_from n o))) (all_valued v) c.args.resolved.now v.number c.args.number
    (valued_object v) (loaded_view c.args.loaded.now) c.in_ok-valued.ensures.all c.in_ok-valued.ensures.number c.in_ok-valued.ensures.own
    (subst (λ (b : Basis). IfErr c.object_patches.result (FittingFails (all_valued v) (where_in b) (relocations_from v.number (valued_object v)))) c.in_ok-valued.ensures.placed
    c.object_patches.ensures.fault)
