-- Pieces by output section, as they are gathered.
use Rattle.std.specs.Prelude.{◌≡◌, ℕ, zero, suc, Bool, List, [], ◌∷◌, ◌++◌, cond, map, filter}
use Rattle.std.specs.Borrow.{Bor}
use Rattle.std.specs.Global.{Vec}
use Rattle.std.specs.List.{flat_map}
use Rattle.elf_model.specs.Link.ArrayOrder.{in_array_order}
use Rattle.elf_model.specs.Own.OwnLayout.{is_code, is_data, is_initial, is_read_only, is_thread_rest, is_zero, leaders}
use Rattle.elf_model.specs.Link.Pieces as pieces
use Rattle.elf_model.specs.Link.Pieces.{same_output}
use Rattle.placing.specs.Views.{borrowed_views}
use Rattle.layout.specs.declared.output_sections.Part.{Part}
use Rattle.layout.specs.declared.output_sections.Part.TheVariants as part
use Rattle.placing.specs.declared.piece.Piece.{Piece}

-- the pieces of a part of the own order
abbrev pub part_test : Part → pieces.Piece → Bool
part_test part.ReadOnly p = is_read_only p
part_test part.Code p = is_code p
part_test part.Initial p = is_initial p
part_test part.Data p = is_data p
part_test part.Zero p = is_zero p
part_test part.ThreadRest p = is_thread_rest p

-- the pieces of a leader's output section
abbrev pub group : List pieces.Piece → pieces.Piece → List pieces.Piece
group ps l = filter (same_output l) ps

abbrev pub group_views : List (Vec (Bor Piece)) → List (List pieces.Piece)
group_views gs = map (λ g. borrowed_views g.items) gs

-- the pieces of each output section, by first appearance
abbrev pub AreGathered : List (Vec (Bor Piece)) → List pieces.Piece → Type 0
AreGathered groups done = group_views groups ≡ map (group done) (leaders done)

-- a list of lists with one more piece in number i
abbrev pub put_at : List (List pieces.Piece) → ℕ → pieces.Piece → List (List pieces.Piece)
put_at [] i q = []
put_at (g ∷ gs) zero q = (g ++ q ∷ []) ∷ gs
put_at (g ∷ gs) (suc i) q = g ∷ put_at gs i q

-- the pieces of a group in their order where it belongs to a part, and those of all groups
abbrev pub group_part : Part → List pieces.Piece → List pieces.Piece
group_part part [] = []
group_part part (p ∷ ps) = cond (part_test part p) (in_array_order (p ∷ ps)) []

abbrev pub parts : Part → List (Vec (Bor Piece)) → List pieces.Piece
parts part gs = flat_map (group_part part) (group_views gs)
