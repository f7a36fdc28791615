use Rattle.std.proofs.Common.{◌≡◌, ℕ, List, ◌||◌, map}
use Rattle.std.specs.List.{list_any}
use Rattle.elf_model.specs.Link.UsedNames.{is_among, uses_line}
use Rattle.check_relocs.specs.LinkerUses.{AreUses}
use Rattle.check_relocs.specs.Referrers.{objects_here, relocation_here, relocations_here}
use Rattle.check_relocs.proofs.linker_uses.add_object.Given as goal

abbrev pub invariant-loop-relocation : goal.invariant-loop-relocation
invariant-loop-relocation l = record {
  known : AreUses l.here l.uses.items;
  gains :
      (n : List ℕ)
      → (is_among l.names n || list_any (uses_line (objects_here l.here) n) (map (relocation_here l.here) l.relocation-iterator))
      ≡ (is_among l.fn.names n || list_any (uses_line (objects_here l.here) n) (relocations_here l.here));
}
