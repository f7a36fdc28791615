-- F8. The table of call frames (LSB Core 10.6.2, "The .eh_frame_hdr section"), by which a program that runs finds the record of a function
-- without going over the list: it takes the last row whose function doesn't begin behind an address. PT_GNU_EH_FRAME says where the table
-- is: a version; how the address of the list, the number of rows and these are encoded; that address; that number; and the rows.
use Rattle.std.specs.Prelude.{◌≡◌, ℕ, ◌+◌, ◌-◌, ◌*◌, ◌%◌, ◌^◌, ◌<◌, ◌≤◌, true, List, [], ◌∷◌, Option, None, Some, All, Any, IfSome, IsSomeAnd, drop, length, map, slice_index_or, take}
use Rattle.std.specs.List.{range_with_len, slice_get}
use Rattle.std.specs.List.Sorted.{IsNonDecreasingBy}
use Rattle.byteview.specs.Numbers.{le_at}
use Rattle.elf_model.specs.declared.records.ProgramHeader.{ProgramHeader}
use Rattle.judge_model.specs.FrameCode.{function_at, has_size, signed_32}
use Rattle.judge_model.specs.Frames.{IsFunction, IsListIn, are_zeros, record_with, records_of, stretch_bytes}
use Rattle.judge_model.specs.Headers.{frame_tables, has_frame_table, table_stretch}
use Rattle.judge_model.specs.Links.{ForeignLink}
use Rattle.judge_model.specs.declared.certificate.StretchLine.{StretchLine}
use Rattle.judge_model.specs.declared.frame_record.FrameRecord.{FrameRecord}
use Rattle.judge_model.specs.declared.frame_record.FrameRow.{FrameRow}

-- Rows.

-- what 4 bytes at an offset say that is counted from an address
abbrev pub counted : ℕ → List ℕ → ℕ → ℕ
counted from bytes at = (from + signed_32 (le_at 4 bytes at)) % 2 ^ 64

-- the rows of a table that begins at an address: both parts of a row are counted from there
abbrev pub row_at : ℕ → List ℕ → ℕ → FrameRow
row_at start bytes k = record {
  function = counted start bytes (12 + 8 * k);
  place = counted start bytes (16 + 8 * k);
}

abbrev pub row_count : List ℕ → ℕ
row_count bytes = le_at 4 bytes 8

abbrev pub rows_of : ℕ → List ℕ → List FrameRow
rows_of start bytes = map (row_at start bytes) (range_with_len 0 (row_count bytes))

-- a row is that of a function's record in a list that begins at an address
pub record IsRowOf (list : List ℕ) (start : ℕ) (row : FrameRow) (r : FrameRecord) : Type 0 where
  pub function : IsFunction r
  pub address : function_at list start r ≡ Some row.function

abbrev pub IsRow : List ℕ → ℕ → FrameRow → Type 0
IsRow list start row = (start ≤ row.place) × IsSomeAnd (record_with list (row.place - start)) (IsRowOf list start row)

-- the functions of all rows that follow the one with a number begin behind an address; by such a row a function is found
abbrev pub AreBehind : List FrameRow → ℕ → ℕ → Type 0
AreBehind rows k address = (j : ℕ) (d : FrameRow) → k < j → j < length rows → address < (slice_index_or rows j d).function

abbrev pub IsFound : List FrameRow → FrameRow → Type 0
IsFound rows row = (k : ℕ) × (slice_get rows k ≡ Some row) × AreBehind rows k row.function

abbrev pub FindsAt : List FrameRow → ℕ → ℕ → Type 0
FindsAt rows at address = IsFound rows (record { function = address; place = at })

-- each function of the list that has bytes is found
abbrev pub Finds : List FrameRow → List ℕ → ℕ → FrameRecord → Type 0
Finds rows list start r =
    IsFunction r → has_size list r ≡ true → IsSomeAnd (function_at list start r) (FindsAt rows (start + r.offset))

pub record AreRowsRight (list : List ℕ) (start : ℕ) (rows : List FrameRow) : Type 0 where
  pub rising : IsNonDecreasingBy (λ row. row.function) rows
  pub each : All (IsRow list start) rows
  pub found : All (Finds rows list start) (records_of list)

-- Tables.

-- version 1; the address of the list as 4 bytes with a sign, counted from its place; the number of rows as 4 bytes without one; and rows of
-- 4 bytes with a sign, counted from the table
abbrev pub table_head : List ℕ
table_head = 0x01 ∷ 0x1b ∷ 0x03 ∷ 0x3b ∷ []

-- where a list begins, and what it has; nothing where there is none
abbrev pub start_of : Option StretchLine → ℕ
start_of None = 0
start_of (Some s) = s.address

abbrev pub list_bytes : List ℕ → Option StretchLine → Option (List ℕ)
list_bytes image None = Some []
list_bytes image (Some s) = stretch_bytes image s

-- The bytes at an address are a table of a list, as aligned as programs ask for that look rows up; and zeros fill what is behind the
-- rows. Where there is no list it has no rows, and points anywhere.
pub record IsTable (list : Option StretchLine) (frames : List ℕ) (at : ℕ) (bytes : List ℕ) : Type 0 where
  pub aligned : at % 4 ≡ 0
  pub head : take 4 bytes ≡ table_head
  pub points : IfSome list (λ s. counted (at + 4) bytes 4 ≡ s.address)
  pub room : 12 + 8 * row_count bytes ≤ length bytes
  pub rest : are_zeros (drop (12 + 8 * row_count bytes) bytes) ≡ true
  pub rows : AreRowsRight frames (start_of list) (rows_of at bytes)

-- a header is that of a table, which the file has whole, in one of the areas
abbrev pub IsTableAt : List ℕ → Option StretchLine → StretchLine → List ℕ → Type 0
IsTableAt image list t frames = IsSomeAnd (stretch_bytes image t) (IsTable list frames t.address)

pub record IsTableRight (image : List ℕ) (areas : List StretchLine) (list : Option StretchLine) (h : ProgramHeader) : Type 0 where
  pub whole : h.p_filesz ≡ h.p_memsz
  pub area : Any (IsListIn (table_stretch h)) areas
  pub table : IsSomeAnd (list_bytes image list) (IsTableAt image list (table_stretch h))

-- a list has the record of a function
abbrev pub HasFunctions : List ℕ → Option StretchLine → Type 0
HasFunctions image list = IsSomeAnd (list_bytes image list) (λ frames. Any IsFunction (records_of frames))

-- Each table is right; and there is one where the words ask for it, and the list has a function.
pub record HasRightTable (l : ForeignLink) : Type 0 where
  pub each : All (IsTableRight l.image l.certificate.areas l.certificate.list) (frame_tables l.image)
  pub asked : l.plan.tables ≡ true → HasFunctions l.image l.certificate.list → has_frame_table l.image ≡ true
