-- The bytes of sections of call frames.
use Rattle.std.specs.Prelude.{ℕ, List, None, Option, map}
use Rattle.std.specs.List.{slice_get}
use Rattle.std.specs.Option.{option_map_or}
use Rattle.elf_model.specs.Link.Pieces.{Piece}

abbrev pub piece_bytes : List Piece → List (List ℕ)
piece_bytes ps = map (λ p. p.bytes) ps

-- those at a place, where there is one
abbrev pub bytes_at : List (List ℕ) → Option ℕ → Option (List ℕ)
bytes_at bytes place = option_map_or (slice_get bytes) place None
