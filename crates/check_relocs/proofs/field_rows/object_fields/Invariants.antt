use Rattle.std.proofs.Common.{◌≡◌, ◌++◌, map}
use Rattle.std.specs.Prelude.{All}
use Rattle.elf_model.proofs.Rests.{Left}
use Rattle.check_relocs.specs.Fields.{IsRight, field_of}
use Rattle.check_relocs.specs.KnownSlots.{AreSymbolsKnown}
use Rattle.check_relocs.specs.LawfulFields.{IsRelocated}
use Rattle.check_relocs.specs.Referrers.{objects_here, relocation_here, relocations_here}
use Rattle.check_relocs.proofs.field_rows.object_fields.Given as goal

abbrev pub invariant-loop-relocation : goal.invariant-loop-relocation
invariant-loop-relocation l = record {
  known : AreSymbolsKnown l.here l.known;
  to : IsRelocated l.here l.to;
  fields :
      l.fields.items ++ map (field_of (objects_here l.here) l.here.bindings.now.places) (map (relocation_here l.here) l.relocation-iterator)
      ≡ map (field_of (objects_here l.here) l.here.bindings.now.places) (relocations_here l.here);
  right :
      Left (All (IsRight (objects_here l.here) l.here.bindings.now.places) (relocations_here l.here))
      (All (IsRight (objects_here l.here) l.here.bindings.now.places) (map (relocation_here l.here) l.relocation-iterator));
}
