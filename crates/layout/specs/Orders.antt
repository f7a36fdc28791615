-- The own order of objects' pieces, as it is kept.
use Rattle.std.specs.Prelude.{◌≡◌, ◌++◌, List, filter, map}
use Rattle.std.specs.Borrow.{Bor}
use Rattle.std.specs.Global.{Vec}
use Rattle.elf_model.specs.Link.Commons.{block_piece, blocks}
use Rattle.elf_model.specs.Link.Loading.{LoadedObject}
use Rattle.elf_model.specs.Own.OwnLayout.{code_pieces, got_pieces, grouped, has_thread_pieces, initial_pieces, is_data, is_zero, read_only_pieces, thread_rest_pieces}
use Rattle.elf_model.specs.Link.Pieces.{Piece, is_thread_piece, kept_sections}
use Rattle.elf_model.specs.Link.ThreadStorage.{alignment_of}
use Rattle.search.specs.Views.{loaded_views}
use Rattle.layout.specs.Groups.{parts}
use Rattle.layout.specs.PieceLists.{if_sized}
use Rattle.placing.specs.Views.{borrowed_views, piece_view, piece_views}
use Rattle.layout.specs.declared.order.Order.{Order}
use Rattle.layout.specs.declared.output_sections.Part.TheVariants as part
use Rattle.placing.specs.declared.piece.Piece as code
use Rattle.layout.specs.declared.pieces.Pieces.{Pieces}

-- the objects of which it is
abbrev pub objects_of : Order → List LoadedObject
objects_of o = loaded_views o.objects.now

-- what may be written of objects and isn't thread-local: sections with bytes, the GOT, those without bytes, and blocks behind
-- them
abbrev pub plain_pieces : List LoadedObject → List Piece
plain_pieces objects =
    grouped (filter is_data (kept_sections objects))
    ++ (got_pieces objects ++ (grouped (filter is_zero (kept_sections objects)) ++ map block_piece (blocks objects)))

-- the same of groups and lists of pieces
abbrev pub data_in : List (Vec (Bor code.Piece)) → Pieces → List Piece
data_in groups ps =
    parts part.Data groups ++ (if_sized (piece_view ps.got) ++ (parts part.Zero groups ++ piece_views ps.blocks.items))

-- its lists are those of the own layout
pub record IsOrder (o : Order) : Type 0 where
  pub read_only : borrowed_views o.read_only.items ≡ read_only_pieces (objects_of o)
  pub code : borrowed_views o.code.items ≡ code_pieces (objects_of o)
  pub initial : borrowed_views o.initial.items ≡ initial_pieces (objects_of o)
  pub data_ : borrowed_views o.data.items ≡ plain_pieces (objects_of o)
  pub thread_rest : borrowed_views o.thread_rest.items ≡ thread_rest_pieces (objects_of o)
  pub thread_align : o.thread_align ≡ alignment_of is_thread_piece (kept_sections (objects_of o))
  pub threads : o.has_threads ≡ has_thread_pieces (objects_of o)
