-- Tables by output names: of the pieces of each whether they are of one output section, and where they begin and end.
use Rattle.std.specs.Prelude.{◌≡◌, ℕ, ◌&&◌, Bool, AllPairs, cond, List, [], ◌∷◌, None, Option, Some, option_map, true, unwrap_or}
use Rattle.std.specs.Borrow.{Bor}
use Rattle.std.specs.BTreeMap.{BTreeMap}
use Rattle.elf_model.specs.Link.LinkerValues.{end_of_pieces, start_of_pieces}
use Rattle.elf_model.specs.Link.Pieces.{Piece, is_of_output, same_output}
use Rattle.elf_model.specs.Link.Placement.{Placed}
use Rattle.elf_model.proofs.PieceBounds.{earlier, further}
use Rattle.check_link.specs.ByName.{found_in, known}
use Rattle.check_link.specs.OutputSections.{same_flags}
use Rattle.check_link.specs.Views.{piece_view}
use Rattle.check_link.specs.declared.by_name.ByName.{ByName}
use Rattle.check_link.specs.declared.bounds.Span.{Span}
use Rattle.check_link.specs.declared.output_names.Output.{Output}

-- the first piece of an output name, and whether all pieces of the name are alike it in their flags
abbrev pub Seen : Type 0
Seen = Piece × Bool

abbrev pub seen_view : Output → Seen
seen_view o = (piece_view o.first, o.alike)

-- what is known of an output name, once one more piece is seen
abbrev pub with_piece : Piece → Option Seen → Seen
with_piece p None = (p, true)
with_piece p (Some s) = (s.0, s.1 && same_flags s.0 p)

abbrev pub seen_more : List ℕ → Piece → Option Seen → Option Seen
seen_more name p o = cond (is_of_output name p) (Some (with_piece p o)) o

abbrev pub seen_all : List ℕ → List Piece → Option Seen → Option Seen
seen_all name [] o = o
seen_all name (p ∷ ps) o = seen_all name ps (seen_more name p o)

-- what a table has for an output name
abbrev pub seen_in : BTreeMap (Bor (List ℕ)) Output → List ℕ → Option Seen
seen_in table name = option_map seen_view (found_in table name)

abbrev pub seen_now : ByName Output → List ℕ → Option Seen
seen_now t name = option_map seen_view (known t name)

abbrev pub AreOutputs : List Piece → BTreeMap (Bor (List ℕ)) Output → Type 0
AreOutputs ps table = (name : List ℕ) → seen_in table name ≡ seen_all name ps None

-- the pieces of an output name are of one output section
abbrev pub AreOne : List Piece → List ℕ → Type 0
AreOne ps name = AllPairs (λ p q. is_of_output name p ≡ true → is_of_output name q ≡ true → same_output p q ≡ true) ps

-- where the pieces of an output name begin and end
abbrev pub start_of : Option Span → Option ℕ
start_of span = option_map (λ s. s.start) span

abbrev pub end_of : Option Span → ℕ
end_of span = unwrap_or (option_map (λ s. s.end) span) 0

pub record AreSpans (qs : List Placed) (spans : BTreeMap (Bor (List ℕ)) Span) : Type 0 where
  pub starts : (name : List ℕ) → start_of (found_in spans name) ≡ start_of_pieces (is_of_output name) qs
  pub ends : (name : List ℕ) → end_of (found_in spans name) ≡ end_of_pieces (is_of_output name) qs

-- what is known is what one more piece gives
pub record HasSpanned (old new : ByName Span) (q : Placed) : Type 0 where
  pub starts : (name : List ℕ) → start_of (known new name) ≡ earlier (is_of_output name) (start_of (known old name)) q
  pub ends : (name : List ℕ) → end_of (known new name) ≡ further (is_of_output name) (end_of (known old name)) q
