-- Where the linker's own addresses are, said without a running address (profile): each piece stands at the least
-- multiple of its alignment that lies below neither the headers' end, nor its segment's beginning, nor the end of any
-- piece listed before it that takes up memory; a thread-local one below neither their beginning, nor the end of any of
-- them before it. A segment begins at the least page boundary below none of the ends before it, and the thread-local
-- pieces at the least multiple of their greatest alignment not below the beginning of RW.
use Rattle.std.specs.Prelude.{◌≡◌, ℕ, ◌+◌, ◌%◌, ◌≤◌, Bool, true, not, cond, List, ◌∷◌, ◌++◌, All, filter, map}
use Rattle.elf_model.specs.Link.Loading.{LoadedObject}
use Rattle.elf_model.specs.Own.OwnLayout.{code_pieces, code_start, data_pieces, data_start, is_code, is_read_only, is_thread_rest, own_code, own_headers_size, own_placed, own_read_only, placed_end, read_only_pieces, thread_rest_pieces, thread_start}
use Rattle.elf_model.specs.Link.Pieces.{Piece, is_thread_piece, kept_sections}
use Rattle.elf_model.specs.Link.Placement.{Placed}
use Rattle.elf_model.specs.Link.ThreadStorage.{alignment_of}

-- a number is the least multiple of another one of which a fact holds
pub record IsLeastMultiple (a : ℕ) (Holds : ℕ → Type 0) (x : ℕ) : Type 0 where
  pub multiple : x % a ≡ 0
  pub holds : Holds x
  pub least : (y : ℕ) → y % a ≡ 0 → Holds y → x ≤ y

-- no piece ends after an address
abbrev pub AllEndBy : List Placed → ℕ → Type 0
AllEndBy qs a = All (λ q. placed_end q ≤ a) qs

-- where a piece's segment begins: R with the headers, RX and RW with their first page
abbrev pub segment_start : ℕ → List LoadedObject → Piece → ℕ
segment_start base objects p =
    cond (is_read_only p) base (cond (is_code p) (code_start base objects) (data_start base objects))

-- a piece moves one that is listed behind it: a thread-local one without bytes is moved by the thread-local ones
-- alone, and moves no other
abbrev pub moves : Piece → Piece → Bool
moves p q = cond (is_thread_rest q) (is_thread_piece p) (not (is_thread_rest p))

-- a piece may stand at an address, after pieces that are listed before it
pub record MayStand (base : ℕ) (objects : List LoadedObject) (before : List Placed) (p : Piece) (a : ℕ) : Type 0 where
  pub headers : base + own_headers_size objects ≤ a
  pub segment : segment_start base objects p ≤ a
  pub thread : is_thread_piece p ≡ true → thread_start base objects ≤ a
  pub others : AllEndBy (filter (λ q. moves q.piece p) before) a

-- a page boundary lies below no end of the headers and of pieces
pub record MayBegin (base : ℕ) (objects : List LoadedObject) (before : List Placed) (a : ℕ) : Type 0 where
  pub headers : base + own_headers_size objects ≤ a
  pub others : AllEndBy before a

-- the own addresses: the pieces in the order of their segments, where RX and RW begin, and each piece's place
pub record AreOwnAddresses (base : ℕ) (objects : List LoadedObject) : Type 0 where
  pub order :
      map (λ q. q.piece) (own_placed base objects)
      ≡ (read_only_pieces objects ++ (code_pieces objects ++ data_pieces objects)) ++ thread_rest_pieces objects
  pub code : IsLeastMultiple 4096 (MayBegin base objects (own_read_only base objects)) (code_start base objects)
  pub data_ : IsLeastMultiple 4096 (MayBegin base objects (own_read_only base objects ++ own_code base objects)) (data_start base objects)
  pub threads : IsLeastMultiple (alignment_of is_thread_piece (kept_sections objects)) (λ a. data_start base objects ≤ a) (thread_start base objects)
  pub each :
      (before rest : List Placed) (q : Placed) → own_placed base objects ≡ before ++ q ∷ rest →
      IsLeastMultiple q.piece.align (MayStand base objects before q.piece) q.at
