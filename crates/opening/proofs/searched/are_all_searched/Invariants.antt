use Rattle.std.proofs.Common.{ℕ, List, map, take}
use Rattle.std.specs.Prelude.{All}
use Rattle.command.specs.Views.{item_of}
use Rattle.opening.specs.Held.{IsSearchedOrWhole}
use Rattle.opening.proofs.searched.are_all_searched.Given as goal

abbrev pub invariant-loop-item : goal.invariant-loop-item
invariant-loop-item l =
    (directories : List (List ℕ)) → All (IsSearchedOrWhole l.parts directories) (map item_of (take l.item-index l.items))
