use Rattle.std.proofs.Common.{◌∷◌, [], ◌++◌, ◌∙◌, List, ap, map, sym}
use Rattle.std.proofs.lemmas.List.{append_assoc}
use Rattle.check_load.specs.KeptRelocations.{relocation_at}
use Rattle.check_load.specs.Views.{loaded_view}
use Rattle.check_load.specs.declared.kept_relocations.KeptRelocation.{KeptRelocation}
use Rattle.link_fields.specs.Fields.{field_of}
use Rattle.link_fields.specs.declared.object_fields.SectionField.{SectionField}
use Rattle.link_fields.proofs.object_fields.collected.Goals as goal

pub loop-relocation-preserved : goal.loop-relocation-preserved
loop-relocation-preserved c =
    let at = relocation_at c.args.number (loaded_view c.args.loaded.now) in
    let before = c.loop-relocation.row.items in
    let rest = map field_of (map at c.next.new.self) in
    ap (λ (fs : List SectionField). fs ++ rest) c.in_ok-push.ensures.items
    ∙ (append_assoc before (c.field_of.result ∷ []) rest
    ∙ (ap (λ (f : SectionField). before ++ f ∷ rest) (c.field_of.ensures c.args.number)
    ∙ (sym (ap (λ (ks : List KeptRelocation). before ++ map field_of (map at ks)) c.in-Some.ensures.steps) ∙ c.loop-relocation.invariant)))
