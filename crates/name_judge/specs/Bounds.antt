-- The values that names of the linker's may have, by a few addresses of a link.
use Rattle.std.specs.Prelude.{◌≡◌, ◌⊎◌, ℕ, ◌-◌, ◌≤◌, List, None, Option, Some, All, Any, IfSome, codes}
use Rattle.std.specs.Borrow.{Bor}
use Rattle.std.specs.BTreeMap.{BTreeMap}
use Rattle.elf_model.specs.Image.MemoryImage.{Encloses, first_address, loads}
use Rattle.elf_model.specs.Link.LinkerNames.{named_output}
use Rattle.elf_model.specs.Link.LinkerValues.{end_of_pieces, is_code_piece, is_file_data, is_loaded_piece, is_zero_data, start_of_pieces}
use Rattle.elf_model.specs.Link.Meaning.{object_meaning}
use Rattle.elf_model.specs.Link.Placement.{Placed}
use Rattle.elf_model.specs.declared.bound.Bound.{Bound}
use Rattle.elf_model.specs.declared.bound.Bound.TheVariants.{CodeEnd, DataEnd, GotStart, ImageEnd, ImageStart, OutputEnd, OutputStart, ZeroStart}
use Rattle.elf_model.specs.declared.records.ProgramHeader.{ProgramHeader}
use Rattle.elf_model.specs.declared.thing.Thing.{Thing}
use Rattle.check_link.specs.ByName.{found_in}
use Rattle.check_link.specs.Outputs.{start_of}
use Rattle.check_link.specs.declared.bounds.Span.{Span}
use Rattle.judge_model.specs.Certificates.{NameRow, value_of_name}
use Rattle.judge_model.specs.Memory.{address_limit}
use Rattle.judge_model.specs.Names.{EndsSegment, HasPages, is_small_data, is_some_small_data, is_some_zeros}
use Rattle.judge_model.specs.declared.certificate.StretchLine.{StretchLine}
use Rattle.link_fields.specs.Parts.{Parts, bound_of}
use Rattle.name_judge.specs.Clear.{IsEndOfStretches, IsFrom, IsLastIn, IsNextIn, IsUpTo}
use Rattle.name_judge.specs.declared.marks.Marks.{Marks}

-- the addresses of a link by which names are judged
pub record AreMarks (hs : List ProgramHeader) (qs : List Placed) (ts : List Thing) (ns : List StretchLine) (m : Marks) : Type 0 where
  pub code_end : m.code_end ≡ end_of_pieces is_code_piece qs
  pub code_next : IsNextIn ts m.code_end m.code_next
  pub data_end : m.data_end ≡ end_of_pieces is_file_data qs
  pub data_next : IsNextIn ts m.data_end m.data_next
  pub small_end : m.small_end ≡ end_of_pieces is_small_data qs
  pub small_next : IsNextIn ts m.small_end m.small_next
  pub zero_start : m.zero_start ≡ start_of_pieces is_some_zeros qs
  pub zero_last : IfSome m.zero_start (λ a. IsLastIn ts a m.zero_last)
  pub empty_start : m.empty_start ≡ start_of_pieces is_zero_data qs
  pub some_end : m.some_end ≡ end_of_pieces is_some_small_data qs
  pub image_end : m.image_end ≡ end_of_pieces is_loaded_piece qs
  pub filled_end : IsEndOfStretches ns m.filled_end
  pub limit : m.limit ≡ address_limit hs

-- an address is among those of the segments, or not far behind them
pub record IsReached (hs : List ProgramHeader) (m : Marks) (v : ℕ) : Type 0 where
  pub low : first_address hs ≤ v
  pub high : v ≤ m.limit

-- at an end, or behind it in its segment and before whatever comes next; or near, where it is the end of nothing
pub record IsBehindMark (hs : List ProgramHeader) (end : ℕ) (next : Option ℕ) (v : ℕ) : Type 0 where
  pub behind : end ≤ v
  pub inside : Any (λ h. Encloses h end (v - end)) hs
  pub clear : IsUpTo v next

pub record IsNoEnd (hs : List ProgramHeader) (m : Marks) (end v : ℕ) : Type 0 where
  pub none : end ≡ 0
  pub reached : IsReached hs m v

abbrev pub EndsAt : List ProgramHeader → Marks → ℕ → Option ℕ → ℕ → Type 0
EndsAt hs m end next v = (v ≡ end) ⊎ IsBehindMark hs end next v ⊎ IsNoEnd hs m end v

-- the same of code, or at the end of its segment
abbrev pub CodeEndsAt : List ProgramHeader → Marks → ℕ → Type 0
CodeEndsAt hs m v = EndsAt hs m m.code_end m.code_next v ⊎ Any (EndsSegment m.code_end v) hs

-- the end of data, or of what isn't large of it
abbrev pub DataEndsAt : List ProgramHeader → Marks → ℕ → Type 0
DataEndsAt hs m v = EndsAt hs m m.data_end m.data_next v ⊎ EndsAt hs m m.small_end m.small_next v

-- at no address, or near
abbrev pub IsNowhereIn : List ProgramHeader → Marks → ℕ → Type 0
IsNowhereIn hs m v = (v ≡ 0) ⊎ IsReached hs m v

-- where zeros begin, or before that on the pages of a segment that is written and behind whatever comes before; where there
-- are none at the end of data or where an empty section of zeros is, behind all data, and behind all sections, notes and areas where
-- there are none of these either
pub record IsAheadMark (hs : List ProgramHeader) (start : ℕ) (last : Option ℕ) (v : ℕ) : Type 0 where
  pub ahead : v ≤ start
  pub inside : Any (HasPages start v) hs
  pub clear : IsFrom v last

abbrev pub BeginsAt : List ProgramHeader → ℕ → Option ℕ → ℕ → Type 0
BeginsAt hs start last v = (v ≡ start) ⊎ IsAheadMark hs start last v

pub record IsBehindData (m : Marks) (v : ℕ) : Type 0 where
  pub behind : m.some_end ≤ v
  pub alone : m.some_end ≡ 0 → m.image_end ≤ v
  pub spares : m.some_end ≡ 0 → m.filled_end ≤ v

abbrev pub IsAtNone : List ProgramHeader → Marks → ℕ → Type 0
IsAtNone hs m v = DataEndsAt hs m v ⊎ (m.empty_start ≡ Some v)

pub record StartsNoZeros (hs : List ProgramHeader) (m : Marks) (v : ℕ) : Type 0 where
  pub at : IsAtNone hs m v
  pub kept : IsBehindData m v

abbrev pub ZerosStart : List ProgramHeader → Marks → Option ℕ → ℕ → Type 0
ZerosStart hs m None v = StartsNoZeros hs m v
ZerosStart hs m (Some start) v = BeginsAt hs start m.zero_last v

pub record IsEndOfAll (m : Marks) (v : ℕ) : Type 0 where
  pub behind : m.image_end ≤ v
  pub filled : m.filled_end ≤ v
  pub near : v ≤ m.limit

-- where the span of an output name begins and ends; at no address or near without one
abbrev pub SpanStarts : List ProgramHeader → Marks → Option Span → ℕ → Type 0
SpanStarts hs m None v = IsNowhereIn hs m v
SpanStarts hs m (Some s) v = v ≡ s.start

abbrev pub SpanEnds : List ProgramHeader → Marks → Option Span → ℕ → Type 0
SpanEnds hs m None v = IsNowhereIn hs m v
SpanEnds hs m (Some s) v = v ≡ s.end

-- a value of a bound, by the addresses of a link and the span of the output name of which its name speaks
abbrev pub IsBoundBy : List ProgramHeader → Marks → Option ℕ → Option Span → ℕ → Bound → Type 0
IsBoundBy hs m got span v ImageStart = v ≡ first_address hs
IsBoundBy hs m got span v CodeEnd = CodeEndsAt hs m v
IsBoundBy hs m got span v DataEnd = DataEndsAt hs m v
IsBoundBy hs m got span v ZeroStart = ZerosStart hs m m.zero_start v
IsBoundBy hs m got span v ImageEnd = IsEndOfAll m v
IsBoundBy hs m got span v GotStart = got ≡ Some v
IsBoundBy hs m got span v OutputStart = SpanStarts hs m span v
IsBoundBy hs m got span v OutputEnd = SpanEnds hs m span v

-- the value of a row is one of its name's bound, unless objects define the name
pub record IsRowRight (p : Parts) (m : Marks) (spans : BTreeMap (Bor (List ℕ)) Span) (row : NameRow) : Type 0 where
  pub right :
      object_meaning p.objects row.name ≡ None →
      IfSome (bound_of p.pieces row.name) (IsBoundBy (loads p.image) m p.got (found_in spans (named_output row.name)) row.value)

-- two names for the beginning and the end of an array that has nothing have one value
pub record IsPairOne (p : Parts) (spans : BTreeMap (Bor (List ℕ)) Span) (first last : List ℕ) : Type 0 where
  pub one :
      start_of (found_in spans (named_output first)) ≡ None →
      object_meaning p.objects first ≡ None →
      object_meaning p.objects last ≡ None →
      IfSome (value_of_name p.rows first) (λ v. IfSome (value_of_name p.rows last) (λ w. v ≡ w))

pub record ArePairsOne (p : Parts) (spans : BTreeMap (Bor (List ℕ)) Span) : Type 0 where
  pub init : IsPairOne p spans (codes "__init_array_start") (codes "__init_array_end")
  pub fini : IsPairOne p spans (codes "__fini_array_start") (codes "__fini_array_end")
  pub preinit : IsPairOne p spans (codes "__preinit_array_start") (codes "__preinit_array_end")

-- the names of a link are right by these
pub record AreNamesBy (p : Parts) (m : Marks) (spans : BTreeMap (Bor (List ℕ)) Span) : Type 0 where
  pub rows : All (IsRowRight p m spans) p.rows
  pub pairs : ArePairsOne p spans

-- the name for the end of all is at or behind an address, and so is that for where zeros begin, at or behind another
abbrev pub end_for : ℕ → ℕ → Bound → ℕ
end_for all before ImageEnd = all
end_for all before ZeroStart = before
end_for all before _ = 0

pub record IsRowBehind (p : Parts) (all before : ℕ) (row : NameRow) : Type 0 where
  pub behind : object_meaning p.objects row.name ≡ None → IfSome (bound_of p.pieces row.name) (λ b. end_for all before b ≤ row.value)
