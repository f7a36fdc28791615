use Rattle.std.proofs.Common.{◌≡◌, List, ℕ, drop}
use Rattle.std.specs.Prelude.{◌&&◌}
use Rattle.std.specs.Option.{option_or}
use Rattle.elf_model.specs.Link.Resolution.{has_name}
use Rattle.check_load.specs.NameNumbers.{KeepNumbers}
use Rattle.check_link.specs.Chosen.{AreHinted, IsOwn, IsSized, first_from, is_of_rank, position_in}
use Rattle.check_link.proofs.chosen_definitions.add_first.Given as goal

abbrev pub invariant-loop-i : goal.invariant-loop-i
invariant-loop-i l = record {
  sized : IsSized l.index;
  kept : KeepNumbers l.fn.index.names l.index.names;
  hinted : AreHinted l.index.names l.objects l.definitions;
  own : IsOwn l.definitions l.fn.index → IsOwn l.definitions l.index;
  positions :
      (name : List ℕ) → option_or (position_in l.index name) (first_from (λ s. is_of_rank l.fn.rank s && has_name name s) l.i (drop l.i l.definitions))
      ≡ option_or (position_in l.fn.index name) (first_from (λ s. is_of_rank l.fn.rank s && has_name name s) 0 l.definitions);
}
