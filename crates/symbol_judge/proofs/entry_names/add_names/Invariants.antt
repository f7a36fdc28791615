use Rattle.std.proofs.Common.{◌≡◌, ◌||◌, ℕ, List, drop}
use Rattle.std.specs.Prelude.{IfSome}
use Rattle.std.specs.List.{list_any}
use Rattle.check_load.specs.NameNumbers.{is_among}
use Rattle.symbol_judge.specs.Names.{IsNoted, is_name_of}
use Rattle.symbol_judge.proofs.entry_names.add_names.Given as goal

abbrev pub invariant-loop-entry : goal.invariant-loop-entry
invariant-loop-entry l =
    IfSome l.noted (IsNoted l.strings l.names)
    × ((n : List ℕ) → (list_any (is_name_of l.strings n) (drop l.entry-index l.entries) || is_among l.names n)
    ≡ (list_any (is_name_of l.strings n) l.entries || is_among l.fn.names n))
