use Rattle.std.proofs.Common.{◌≡◌, ◌∷◌, ◌++◌, List, ap, map, refl, ◌∙◌}
use Rattle.std.specs.Prelude.{All}
use Rattle.std.proofs.lemmas.Bool.{false≢true}
use Rattle.elf_model.proofs.Mapped.{push_mapped}
use Rattle.check_relocs.specs.Fields.{IsRight, field_of}
use Rattle.check_relocs.specs.Referrers.{objects_here, relocation_here, relocations_here}
use Rattle.check_relocs.specs.declared.fields.Field.{Field}
use Rattle.check_relocs.proofs.RightParts.{fields_end, one_more, one_stop, part_all, part_end}
use Rattle.check_relocs.proofs.field_rows.object_fields.Goals as goal

pub loop-relocation-init : goal.loop-relocation-init
loop-relocation-init c =
    let h = c.args.here.now in
    let ps = h.bindings.now.places in
    let make = field_of (objects_here h) ps in
    let same = ap (map (relocation_here h)) c.into_iter-relocation-iterator.ensures.into_iter_gives ∙ c.relocations-relocation-items.ensures.relocations h.number in
    let left = map (relocation_here h) c.into_iter-relocation-iterator.result in
    record {
      known = c.requires;
      to = record {
        size = c.relocated-to.ensures.size;
        frames = c.relocated-to.ensures.frames;
        address = c.relocated-to.ensures.address;
      };
      fields =
          ap (λ (xs : List Field). xs ++ map make left) (c.in_ok-reserve.ensures.items ∙ c.new-fields.ensures.items) ∙ ap (map make) same;
      right = part_all (IsRight (objects_here h) ps) (relocations_here h) left same;
    }

pub returns-in_default-clause-right : goal.returns-in_default-clause-right
returns-in_default-clause-right c =
    let h = c.args.here.now in
    let P = IsRight (objects_here h) h.bindings.now.places in
    let left = map (relocation_here h) c.loop-relocation.relocation-iterator in
    let never = rw c.in_default.is at c.right_field.ensures.field in (
      λ e. absurd (false≢true e),
      λ all. absurd
          (one_stop P (All P (relocations_here h)) left (relocation_here h c.in-Some.relocation) (map (relocation_here h) c.next.new.self)
          (ap (map (relocation_here h)) c.in-Some.ensures.steps) never c.loop-relocation.invariant.right all),
    )

pub loop-relocation-preserved : goal.loop-relocation-preserved
loop-relocation-preserved c =
    let h = c.args.here.now in
    let P = IsRight (objects_here h) h.bindings.now.places in
    let left = map (relocation_here h) c.loop-relocation.relocation-iterator in
    let r = relocation_here h c.in-Some.relocation in
    let rest = map (relocation_here h) c.next.new.self in
    let parts : left ≡ r ∷ rest = ap (map (relocation_here h)) c.in-Some.ensures.steps in
    let s = rw c.in-Some-right_field.is at c.right_field.ensures.field in
    record {
      known = c.right_field.ensures.kept;
      to = c.turn_to.ensures.told;
      fields =
          push_mapped (field_of (objects_here h) h.bindings.now.places) c.loop-relocation.fields.items c.push.new.self.items c.in-Some-right_field.field r left rest _
          c.in_ok-push.ensures.items s.1 parts c.loop-relocation.invariant.fields;
      right = one_more P (All P (relocations_here h)) left r rest parts s.0 c.loop-relocation.invariant.right;
    }

pub returns-clause-right : goal.returns-clause-right
returns-clause-right c =
    let h = c.args.here.now in
    let P = IsRight (objects_here h) h.bindings.now.places in
    let left = map (relocation_here h) c.loop-relocation.relocation-iterator in (
      λ e. part_end P (All P (relocations_here h)) left (ap (map (relocation_here h)) c.in-None.ensures.steps.0) c.loop-relocation.invariant.right,
      λ all. refl,
    )

pub returns-clause-fields : goal.returns-clause-fields
returns-clause-fields c =
    let h = c.args.here.now in
    fields_end (objects_here h) h.bindings.now.places c.loop-relocation.fields.items (map (relocation_here h) c.loop-relocation.relocation-iterator) _
    (ap (map (relocation_here h)) c.in-None.ensures.steps.0) c.loop-relocation.invariant.fields
