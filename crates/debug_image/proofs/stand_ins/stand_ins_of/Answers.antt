use Rattle.std.proofs.Common.{◌≡◌, ◌+◌, ◌++◌, ◌∷◌, [], ◌∙◌, List, ap, option_map, subst, sym, take, take_all}
use Rattle.std.specs.Prelude.{find}
use Rattle.std.specs.Option.{option_and_then}
use Rattle.std.proofs.lemmas.List.{take_more}
use Rattle.elf_model.specs.Inputs.ObjectFile.{Group, groups}
use Rattle.search.specs.Views.{loaded_view}
use Rattle.debug_image.specs.KeptGroups.{lists, stand_in_among}
use Rattle.debug_image.specs.KeptTables.{same_option}
use Rattle.debug_image.proofs.StandInSteps.{flat, groups_more}
use Rattle.debug_image.proofs.stand_ins.stand_ins_of.Goals as goal

pub loop-group-preserved : goal.loop-group-preserved
loop-group-preserved c = λ seen a m gone.
    let o = loaded_view c.args.loaded.now in
    let i = c.loop-group.group-index in
    let g = c.group-item.result in
    let next : take (i + 1) (groups o.bytes) ≡ take i (groups o.bytes) ++ g ∷ [] =
    subst (λ (gs : List Group). take (i + 1) gs ≡ take i gs ++ g ∷ []) c.groups-group-items.ensures.exact
    (take_more c.groups-group-items.result.now i g c.loop-group-test.true ∙ ap (λ (h : Group). take i c.groups-group-items.result.now ++ h ∷ []) (sym c.group-item.is)) in
    groups_more (stand_in_among seen o m) m (take i (groups o.bytes)) (take (i + 1) (groups o.bytes)) g _ _ next (c.loop-group.invariant seen a m gone)
    (c.in_ok-add_group.ensures seen a m gone)

pub returns : goal.returns
returns c = λ seen a m gone.
    let o = loaded_view c.args.loaded.now in
    let i = c.loop-group.group-index in
    let all : take i (groups o.bytes) ≡ groups o.bytes =
    subst (λ (gs : List Group). take i gs ≡ gs) c.groups-group-items.ensures.exact (take_all i c.groups-group-items.result.now c.loop-group-test.false) in
    ap (option_and_then same_option) (c.loop-group.invariant seen a m gone ∙ ap (λ (gs : List Group). option_map (stand_in_among seen o m) (find (lists m) gs)) all)
    ∙ flat (stand_in_among seen o m) (find (lists m) (groups o.bytes))
