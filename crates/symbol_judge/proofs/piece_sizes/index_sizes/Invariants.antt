use Rattle.std.proofs.Common.{◌≡◌, ℕ, drop}
use Rattle.std.specs.Prelude.{find, option_map}
use Rattle.std.specs.Option.{option_or}
use Rattle.elf_model.specs.Link.Placement.{is_of_section}
use Rattle.check_link.specs.PlaceIndex.{address_in}
use Rattle.check_link.specs.Views.{placed_views}
use Rattle.symbol_judge.specs.Wanted.{size_of_section}
use Rattle.symbol_judge.proofs.piece_sizes.index_sizes.Given as goal

abbrev pub invariant-loop-q : goal.invariant-loop-q
invariant-loop-q l =
    (object section : ℕ) → option_or (address_in l.index object section) (option_map (λ q. q.piece.size) (find (is_of_section object section) (placed_views (drop l.q-index l.placed))))
    ≡ size_of_section (placed_views l.placed) object section
