-- Facts of the kept sections of all objects, and the end of a list of them.
use Rattle.std.proofs.Common.{◌≡◌, ℕ, ◌≤◌, List, ◌++◌, length, drop, sym, ap, ◌∙◌}
use Rattle.std.specs.Prelude.{All}
use Rattle.std.proofs.lemmas.List.{append-nil, at_drop_all}
use Rattle.std.proofs.lemmas.List.Elements.{All-weaker}
use Rattle.elf_model.specs.Link.Loading.{LoadedObject}
use Rattle.elf_model.specs.Link.Pieces as pieces
use Rattle.elf_model.specs.Link.Pieces.{pieces_of}
use Rattle.elf_model.proofs.PieceNumbers.{IsKept, kept_whole}
use Rattle.check_load.specs.Views.{loaded_views}
use Rattle.check_link.specs.Views.{piece_views}
use Rattle.check_load.specs.declared.loaded.Loaded.{Loaded}
use Rattle.check_link.specs.declared.things.Piece.{Piece}

-- behind the last object, what was listed is all
pub objects_end :
    (out : List Piece) (os : List Loaded) (k : ℕ) (whole : List pieces.Piece) → length os ≤ k →
    piece_views out ++ pieces_of k (loaded_views (drop k os)) ≡ whole → piece_views out ≡ whole
objects_end out os k whole behind so_far =
    sym (append-nil (piece_views out))
    ∙ (ap (λ vs. piece_views out ++ vs) (sym (at_drop_all (λ (xs : List Loaded). pieces_of k (loaded_views xs)) os k behind)) ∙ so_far)

-- a section has at most as many input bytes as its size
pub all_short : (objects : List LoadedObject) → All (λ p. length p.bytes ≤ p.size) (pieces.kept_sections objects)
all_short objects = All-weaker IsKept (λ (p : pieces.Piece). length p.bytes ≤ p.size) (λ p kept. kept.1) (pieces.kept_sections objects) (kept_whole objects)
