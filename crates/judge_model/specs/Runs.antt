-- Sections that stand one behind the other, so that programs can walk over them: those of each name other than the names
-- below, in an order that the name tells (ld(1), SORT_BY_INIT_PRIORITY; System V gABI 4, SHF_LINK_ORDER).
use Rattle.std.specs.Prelude.{◌≡◌, ℕ, ◌+◌, ◌<◌, ◌≤◌, ◌&&◌, ◌||◌, Bool, true, false, not, cond, List, [], ◌∷◌, codes, drop, find, length, slice_index_or, unwrap_or}
use Rattle.std.specs.List.{list_any}
use Rattle.std.specs.Str.{bytes_eq}
use Rattle.std.specs.Str.Parse.{digits_value}
use Rattle.elf_model.specs.Link.ArrayOrder.{array_rank, by_rank, is_short_number}
use Rattle.elf_model.specs.Link.Pieces.{Piece, has_flag, is_executable, is_gathered_by, is_nobits, is_thread_local, is_writable, same_bool}
use Rattle.elf_model.specs.Link.Placement.{Placed, section_address}
use Rattle.elf_model.specs.declared.constants.TheConstants.{SHF_LINK_ORDER}

-- the names of which sections may stand anywhere, and those that gather sections with a number behind a dot
abbrev pub free_names : List (List ℕ)
free_names =
    codes ".text" ∷ codes ".rodata" ∷ codes ".data" ∷ codes ".bss" ∷ codes ".tdata" ∷ codes ".tbss" ∷ codes ".lrodata"
    ∷ codes ".ldata" ∷ codes ".lbss" ∷ codes ".gcc_except_table" ∷ []

abbrev pub array_names : List (List ℕ)
array_names =
    codes ".init_array" ∷ codes ".fini_array" ∷ codes ".preinit_array" ∷ codes ".ctors" ∷ codes ".dtors" ∷ []

abbrev pub is_free : List ℕ → Bool
is_free name = list_any (is_gathered_by name) free_names

abbrev pub run_name : List ℕ → List ℕ
run_name name = unwrap_or (find (is_gathered_by name) array_names) name

abbrev pub same_name : Piece → Piece → Bool
same_name p q = not (is_free p.name) && bytes_eq (run_name p.name) (run_name q.name)

-- two sections are of one run: of one such name, and alike in WRITE, EXECINSTR, TLS and NOBITS
abbrev pub same_run : Piece → Piece → Bool
same_run p q =
    same_name p q
    && (same_bool (is_writable p.header) (is_writable q.header)
    && (same_bool (is_executable p.header) (is_executable q.header)
    && (same_bool (is_thread_local p.header) (is_thread_local q.header) && same_bool (is_nobits p.header) (is_nobits q.header))))

-- The order of a run: .ctors and .dtors first, then those with a number by rising number; sections with SHF_LINK_ORDER by
-- the addresses of those to which they are linked; arrays by priority, those without one last.
abbrev pub is_of_constructors : List ℕ → Bool
is_of_constructors name = is_gathered_by name (codes ".ctors") || is_gathered_by name (codes ".dtors")

abbrev pub constructor_rank : List ℕ → ℕ
constructor_rank name = cond (is_short_number (drop 7 name)) (1 + digits_value 10 (drop 7 name)) 0

abbrev pub run_rank : List Placed → Placed → ℕ
run_rank qs q =
    cond (has_flag SHF_LINK_ORDER q.piece.header) (section_address qs q.piece.object q.piece.header.sh_link)
    (cond (is_of_constructors q.piece.name) (constructor_rank q.piece.name) (array_rank q.piece.name))

abbrev pub in_run_order : List Placed → List Placed
in_run_order qs = by_rank (run_rank qs) qs

-- section j comes next after section i in their run: none between them is of it
abbrev pub IsNext : List Placed → ℕ → ℕ → Placed → Type 0
IsNext qs i j d =
    (i < j)
    × (j < length qs)
    × (same_run (slice_index_or qs i d).piece (slice_index_or qs j d).piece ≡ true)
    × ((k : ℕ) → i < k → k < j → same_run (slice_index_or qs i d).piece (slice_index_or qs k d).piece ≡ false)

-- two sections that are neighbours in a run
pub record AreNeighbours (qs : List Placed) (p q : Placed) : Type 0 where
  pub i : ℕ
  pub j : ℕ
  pub next : IsNext (in_run_order qs) i j p
  pub first : slice_index_or (in_run_order qs) i p ≡ p
  pub second : slice_index_or (in_run_order qs) j p ≡ q

-- an address lies between them
pub record IsBetween (qs : List Placed) (p q : Placed) (a : ℕ) : Type 0 where
  pub neighbours : AreNeighbours qs p q
  pub behind : p.at + p.piece.size ≤ a
  pub before : a < q.at
