-- What common symbols ask for, name by name, and the blocks of chosen ones.
use Rattle.std.specs.Prelude.{◌≡◌, ℕ, ◌&&◌, Bool, cond, List, Option, filter, find, map, max, option_map, unwrap_or}
use Rattle.std.specs.Borrow.{Bor}
use Rattle.std.specs.BTreeMap.{BTreeMap, get_by}
use Rattle.std.specs.Cmp.Lexicographic.{slice_cmp}
use Rattle.std.specs.Ordering.{nat_cmp}
use Rattle.elf_model.specs.Link.Commons.{Block, greatest, is_common_symbol}
use Rattle.elf_model.specs.Image.MapRecord.{CommonRow}
use Rattle.linkmap.specs.Borrowed.{common_row}
use Rattle.elf_model.specs.Link.Placement.{is_common_row_of}
use Rattle.elf_model.specs.Link.Resolution.{SymbolOf, has_name, is_common_definition}
use Rattle.linkmap.specs.declared.borrowed.BorrowedCommon.{BorrowedCommon}
use Rattle.check_link.specs.Chosen.{is_found}
use Rattle.check_link.specs.Views.{block_view}
use Rattle.check_link.specs.declared.chosen_definitions.Chosen.{Chosen}
use Rattle.check_link.specs.declared.commons.Asked.{Asked}
use Rattle.check_link.specs.declared.things.Block as code

-- a number of what a table has for a name, 0 without it
abbrev pub asked_in : (Asked → ℕ) → BTreeMap (Bor (List ℕ)) Asked → List ℕ → ℕ
asked_in part asked name = unwrap_or (option_map part (get_by (λ k. slice_cmp nat_cmp name k.now) asked)) 0

-- the number that a symbol gives a name: none where it is no common definition of it
abbrev pub gives : (SymbolOf → ℕ) → List ℕ → SymbolOf → ℕ
gives part name s = cond (is_common_definition s && has_name name s) (part s) 0

-- the greatest that symbols give a name
abbrev pub greatest_given : (SymbolOf → ℕ) → List ℕ → List SymbolOf → ℕ
greatest_given part name ss = greatest (map part (filter (has_name name) (filter is_common_definition ss)))

abbrev pub given_size : SymbolOf → ℕ
given_size s = s.entry.st_size

abbrev pub given_align : SymbolOf → ℕ
given_align s = s.entry.st_value

-- a table has what one more symbol gives
pub record HasGained (old new : BTreeMap (Bor (List ℕ)) Asked) (s : SymbolOf) : Type 0 where
  pub sizes : (name : List ℕ) → asked_in (λ a. a.size) new name ≡ max (asked_in (λ a. a.size) old name) (gives given_size name s)
  pub aligns : (name : List ℕ) → asked_in (λ a. a.align) new name ≡ max (asked_in (λ a. a.align) old name) (gives given_align name s)

-- a table has what symbols give
pub record HasAsked (asked : BTreeMap (Bor (List ℕ)) Asked) (ss : List SymbolOf) : Type 0 where
  pub sizes : (name : List ℕ) → asked_in (λ a. a.size) asked name ≡ greatest_given given_size name ss
  pub aligns : (name : List ℕ) → asked_in (λ a. a.align) asked name ≡ greatest_given given_align name ss

-- a common symbol, and the one that an index has for its name
abbrev pub is_block_symbol : Chosen → List SymbolOf → SymbolOf → Bool
is_block_symbol chosen ss s = is_common_symbol s && is_found chosen ss s

-- the block that an index has for a name
abbrev pub block_in : BTreeMap (Bor (List ℕ)) code.Block → List ℕ → Option Block
block_in index name = option_map block_view (get_by (λ k. slice_cmp nat_cmp name k.now) index)

-- the common line that an index has for a name
abbrev pub line_view : Bor BorrowedCommon → CommonRow
line_view line = common_row line.now

abbrev pub line_in : BTreeMap (Bor (List ℕ)) (Bor BorrowedCommon) → List ℕ → Option CommonRow
line_in index name = option_map line_view (get_by (λ k. slice_cmp nat_cmp name k.now) index)

-- an index has for each name the first line of it
abbrev pub IsLineIndex : List CommonRow → BTreeMap (Bor (List ℕ)) (Bor BorrowedCommon) → Type 0
IsLineIndex rows index = (name : List ℕ) → line_in index name ≡ find (is_common_row_of name) rows
