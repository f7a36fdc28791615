use Rattle.std.proofs.Common.{◌++◌, ◌∙◌, List, ap, map, sym}
use Rattle.std.specs.List.{flat_map}
use Rattle.std.proofs.lemmas.List.{append_assoc}
use Rattle.check_load.specs.KeptRelocations.{relocation_at}
use Rattle.check_load.specs.Views.{loaded_view}
use Rattle.check_load.specs.declared.kept_relocations.KeptRelocation.{KeptRelocation}
use Rattle.input_judge.specs.Apart.{bytes_of_field}
use Rattle.input_judge.specs.declared.fields_apart.FieldBytes.{FieldBytes}
use Rattle.input_judge.proofs.fields_apart.fields_of.Goals as goal

pub loop-relocation-preserved : goal.loop-relocation-preserved
loop-relocation-preserved c =
    let view = loaded_view c.args.loaded.now in
    let at = relocation_at c.args.number view in
    let f = bytes_of_field c.args.drops.now in
    let before = c.loop-relocation.fields.items in
    let rest = flat_map f (map at c.next.new.self) in
    ap (λ (fs : List FieldBytes). fs ++ rest) (c.in_ok-add_field.ensures view)
    ∙ (append_assoc before (f (at c.in-Some.relocation)) rest
    ∙ (sym (ap (λ (ks : List KeptRelocation). before ++ flat_map f (map at ks)) c.in-Some.ensures.steps) ∙ c.loop-relocation.invariant))
