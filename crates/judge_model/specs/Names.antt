-- The names that a linker or its script defines where no object does, and which values they may have (ld(1) and the default
-- scripts of GNU ld). A certificate gives each its one value; here is what a value has to be.
use Rattle.std.specs.Prelude.{◌≡◌, ◌⊎◌, ℕ, ◌+◌, ◌-◌, ◌*◌, ◌/◌, ◌<◌, ◌≤◌, ◌&&◌, Bool, not, true, cond, List, [], ◌∷◌, ◌++◌, Option, None, Some, All, AllPairs, Any, IfSome, bit_and, codes, nat_lt, unwrap_or}
use Rattle.std.specs.Option.{option_or}
use Rattle.elf_model.specs.Image.MemoryImage.{Encloses, first_address, loads}
use Rattle.elf_model.specs.Link.LinkerNames.{fixed_bound, named_output, output_bound}
use Rattle.elf_model.specs.Link.LinkerValues.{end_of_pieces, is_code_piece, is_file_data, is_loaded_piece, is_zero_data, start_of_pieces}
use Rattle.elf_model.specs.Link.Pieces.{Piece, has_flag, is_of_output, same_output}
use Rattle.elf_model.specs.Link.Placement.{Covers}
use Rattle.elf_model.specs.declared.bound.Bound.{Bound}
use Rattle.elf_model.specs.declared.constants.TheConstants.{PF_W}
use Rattle.elf_model.specs.declared.bound.Bound.TheVariants.{CodeEnd, DataEnd, GotStart, ImageEnd, ImageStart, OutputEnd, OutputStart, ZeroStart}
use Rattle.elf_model.specs.declared.records.ProgramHeader.{ProgramHeader}
use Rattle.judge_model.specs.Certificates.{NameRow, value_of_name}
use Rattle.elf_model.specs.Link.Meaning.{object_meaning}
use Rattle.judge_model.specs.Links.{ForeignLink, has_output, objects_of, pieces_of, placed_of}
use Rattle.judge_model.specs.Memory.{IsInReach, address_limit}
use Rattle.judge_model.specs.Placed.{things_of}

-- what a name stands for: one that is always defined; __start_N and __stop_N where the image has sections of output name N
abbrev pub bound_of : ForeignLink → List ℕ → Option Bound
bound_of l name = option_or (fixed_bound name) (cond (has_output l (named_output name)) (output_bound name) None)

-- no section, common block, header or note is in between
abbrev pub IsClear : ForeignLink → ℕ → ℕ → Type 0
IsClear l from to = (a : ℕ) → from ≤ a → a < to → All (λ t. ¬ Covers t a) (things_of l)

-- at the greatest end of some pieces, or behind it in their segment and before whatever comes next
pub record IsBehind (l : ForeignLink) (end v : ℕ) : Type 0 where
  pub behind : end ≤ v
  pub inside : Any (λ h. Encloses h end (v - end)) (loads l.image)
  pub clear : IsClear l end v

-- the end of no pieces is 0: there linkers have 0, or the address at which they are, which may be beside all segments
abbrev pub IsEndOfNone : ForeignLink → ℕ → ℕ → Type 0
IsEndOfNone l end v = (end ≡ 0) × IsInReach (loads l.image) v

abbrev pub IsEnd : ForeignLink → ℕ → ℕ → Type 0
IsEnd l end v = (v ≡ end) ⊎ IsBehind l end v ⊎ IsEndOfNone l end v

-- where an output section is that has nothing
abbrev pub IsNowhere : ForeignLink → ℕ → Type 0
IsNowhere l v = (v ≡ 0) ⊎ IsInReach (loads l.image) v

-- the end of code: gold has that of the segment of code, where read-only data may come behind it
abbrev pub EndsSegment : ℕ → ℕ → ProgramHeader → Type 0
EndsSegment end v h =
    (h.p_vaddr < end) × (end ≤ h.p_vaddr + h.p_memsz) × (bit_and h.p_flags PF_W ≡ 0) × (v ≡ h.p_vaddr + h.p_memsz)

abbrev pub IsCodeEnd : ForeignLink → ℕ → ℕ → Type 0
IsCodeEnd l end v = IsEnd l end v ⊎ Any (EndsSegment end v) (loads l.image)

-- the end of data: of all that the file has, or of what isn't large, behind which GNU ld and gold put the rest (AMD64 psABI,
-- SHF_X86_64_LARGE)
abbrev pub shf_x86_64_large : ℕ
shf_x86_64_large = 0x10000000

abbrev pub is_small_data : Piece → Bool
is_small_data p = is_file_data p && not (has_flag shf_x86_64_large p.header)

abbrev pub IsDataEnd : ForeignLink → ℕ → Type 0
IsDataEnd l v = IsEnd l (end_of_pieces is_file_data (placed_of l)) v ⊎ IsEnd l (end_of_pieces is_small_data (placed_of l)) v

-- Where zeros begin, that is sections of them which aren't empty: at the least address of these, or before it on the pages of a
-- segment that is written and behind whatever comes before. Where there are none, at the end of data or where an empty section of
-- zeros is, but behind all data, and where there are no data either behind all sections, notes and areas: programs clear from there to
-- the end of all.
abbrev pub is_some_zeros : Piece → Bool
is_some_zeros p = is_zero_data p && nat_lt 0 p.size

abbrev pub is_some_small_data : Piece → Bool
is_some_small_data p = is_small_data p && nat_lt 0 p.size

abbrev pub HasPages : ℕ → ℕ → ProgramHeader → Type 0
HasPages start v h =
    (h.p_vaddr / 4096 * 4096 ≤ v) × (start ≤ h.p_vaddr + h.p_memsz) × (bit_and h.p_flags PF_W ≡ PF_W)

pub record IsAhead (l : ForeignLink) (start v : ℕ) : Type 0 where
  pub ahead : v ≤ start
  pub inside : Any (HasPages start v) (loads l.image)
  pub clear : IsClear l v start

pub record IsStartOfNoZeros (l : ForeignLink) (v : ℕ) : Type 0 where
  pub at : IsDataEnd l v ⊎ (start_of_pieces is_zero_data (placed_of l) ≡ Some v)
  pub behind : end_of_pieces is_some_small_data (placed_of l) ≤ v
  pub alone : end_of_pieces is_some_small_data (placed_of l) ≡ 0 → end_of_pieces is_loaded_piece (placed_of l) ≤ v
  pub spares : end_of_pieces is_some_small_data (placed_of l) ≡ 0 → All (λ n. n.address + n.size ≤ v) (l.certificate.notes ++ l.certificate.areas)

abbrev pub IsZeroStart : ForeignLink → ℕ → Option ℕ → Type 0
IsZeroStart l v None = IsStartOfNoZeros l v
IsZeroStart l v (Some start) = (v ≡ start) ⊎ IsAhead l start v

-- the end of all: of every section, block, note and area (slots are judged with the fill), and not far behind the last segment
pub record IsImageEnd (l : ForeignLink) (v : ℕ) : Type 0 where
  pub behind : end_of_pieces is_loaded_piece (placed_of l) ≤ v
  pub filled : All (λ n. n.address + n.size ≤ v) (l.certificate.notes ++ l.certificate.areas)
  pub near : v ≤ address_limit (loads l.image)

abbrev pub start_of_output : ForeignLink → List ℕ → Option ℕ
start_of_output l output = start_of_pieces (is_of_output output) (placed_of l)

-- at a place, where an output name has anything; its beginning, and its end
abbrev pub IsAt : ForeignLink → ℕ → ℕ → Option ℕ → Type 0
IsAt l v place None = IsNowhere l v
IsAt l v place (Some start) = v ≡ place

abbrev pub IsStartOf : ForeignLink → List ℕ → ℕ → Type 0
IsStartOf l output v = IsAt l v (unwrap_or (start_of_output l output) 0) (start_of_output l output)

abbrev pub IsEndOf : ForeignLink → List ℕ → ℕ → Type 0
IsEndOf l output v = IsAt l v (end_of_pieces (is_of_output output) (placed_of l)) (start_of_output l output)

-- the value that a name's bound may have
abbrev pub IsBoundAt : ForeignLink → List ℕ → ℕ → Bound → Type 0
IsBoundAt l name v ImageStart = v ≡ first_address (loads l.image)
IsBoundAt l name v CodeEnd = IsCodeEnd l (end_of_pieces is_code_piece (placed_of l)) v
IsBoundAt l name v DataEnd = IsDataEnd l v
IsBoundAt l name v ZeroStart = IsZeroStart l v (start_of_pieces is_some_zeros (placed_of l))
IsBoundAt l name v ImageEnd = IsImageEnd l v
IsBoundAt l name v GotStart = l.certificate.got ≡ Some v
IsBoundAt l name v OutputStart = IsStartOf l (named_output name) v
IsBoundAt l name v OutputEnd = IsEndOf l (named_output name) v

-- an object's definition of a name comes before the linker's
abbrev pub IsBoundRight : ForeignLink → NameRow → Type 0
IsBoundRight l row = object_meaning (objects_of l) row.name ≡ None → IfSome (bound_of l row.name) (IsBoundAt l row.name row.value)

-- The sections between the two names for the beginning and the end of an output name are one run: the image has none of that name
-- that differ in WRITE, EXECINSTR, TLS or NOBITS, and so may be apart. This is asked of inputs.
abbrev pub IsOneRun : ForeignLink → List ℕ → Type 0
IsOneRun l output =
    AllPairs (λ p q. is_of_output output p ≡ true → is_of_output output q ≡ true → same_output p q ≡ true) (pieces_of l)

abbrev pub IsBoundOfOne : ForeignLink → List ℕ → Bound → Type 0
IsBoundOfOne l name OutputStart = IsOneRun l (named_output name)
IsBoundOfOne l name OutputEnd = IsOneRun l (named_output name)
IsBoundOfOne l name _ = Unit {0}

abbrev pub IsUnmixed : ForeignLink → NameRow → Type 0
IsUnmixed l row = object_meaning (objects_of l) row.name ≡ None → IfSome (bound_of l row.name) (IsBoundOfOne l row.name)

-- two names for the beginning and the end of one array, of which the image has nothing, have one value
pub record Pair : Type 0 where
  pub first : List ℕ
  pub last : List ℕ

abbrev pub pair : List ℕ → List ℕ → Pair
pair first last = record { first = first; last = last }

abbrev pub pairs : List Pair
pairs =
    pair (codes "__init_array_start") (codes "__init_array_end")
    ∷ pair (codes "__fini_array_start") (codes "__fini_array_end")
    ∷ pair (codes "__preinit_array_start") (codes "__preinit_array_end")
    ∷ []

abbrev pub IsPairRight : ForeignLink → Pair → Type 0
IsPairRight l p =
    start_of_output l (named_output p.first) ≡ None
    → object_meaning (objects_of l) p.first ≡ None
    → object_meaning (objects_of l) p.last ≡ None
    → IfSome (value_of_name l.certificate.names p.first) (λ v. IfSome (value_of_name l.certificate.names p.last) (λ w. v ≡ w))

pub record AreNamesRight (l : ForeignLink) : Type 0 where
  pub bounds : All (IsBoundRight l) l.certificate.names
  pub paired : All (IsPairRight l) pairs
