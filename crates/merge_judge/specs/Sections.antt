-- The sections that a linker merged, found by their numbers.
use Rattle.std.specs.Prelude.{◌≡◌, ◌==◌, ◌&&◌, ℕ, Bool, List, None, Option, find}
use Rattle.std.specs.List.{slice_get}
use Rattle.std.specs.Option.{option_map_or}
use Rattle.elf_model.specs.Link.Pieces.{Piece}
use Rattle.check_link.specs.PlaceIndex.{Addresses, address_in}

abbrev pub is_numbered : ℕ → ℕ → Piece → Bool
is_numbered object section p = p.object == object && p.section == section

-- the section at a place, where there is one
abbrev pub piece_at : List Piece → Option ℕ → Option Piece
piece_at ps place = option_map_or (slice_get ps) place None

-- an index has for two numbers the place of the first section that has them
abbrev pub IsSectionIndex : List Piece → Addresses → Type 0
IsSectionIndex ps index = (object section : ℕ) → piece_at ps (address_in index object section) ≡ find (is_numbered object section) ps
