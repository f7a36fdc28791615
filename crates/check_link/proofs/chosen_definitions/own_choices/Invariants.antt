use Rattle.std.proofs.Common.{◌≡◌, ◌<◌, ℕ, false, Some}
use Rattle.std.specs.Prelude.{slice_get}
use Rattle.check_link.specs.Chosen.{AreOwnIn, position_at}
use Rattle.check_link.proofs.chosen_definitions.own_choices.Given as goal

abbrev pub invariant-loop-position : goal.invariant-loop-position
invariant-loop-position l = record {
  own : AreOwnIn l.definitions l.index l.marks.items;
  all :
      (n p : ℕ) → n < l.position-index → position_at l.index.positions.items n ≡ Some p → slice_get l.marks.items p ≡ Some false
      → ⊥;
}
