-- What an archive of object files holds, and the faults of one (ar(5); the names and the symbol index are those that System V and GNU ar write). The accessors have a value for every list of bytes; that what they speak of is there is a fact of its own.
use Rattle.std.specs.Prelude.{ℕ, zero, suc, Bool, false, not, ◌≡◌, ◌⊎◌, ◌<◌, ◌≤◌, ◌+◌, ◌-◌, ◌*◌, ◌%◌, ◌^◌, ◌==◌, ◌&&◌, ◌||◌, nat_lt, nat_le, List, [], ◌∷◌, ◌++◌, Option, None, Some, IfSome, IsSome, IsTrue, All, EachIndex, codes, count_by, drop, filter, find, if◌then◌else◌, length, map, option_map, replicate, slice_get, slice_index, slice_index_or, take, unwrap_or}
use Rattle.std.specs.Char.{is_ascii_digit}
use Rattle.std.specs.List.{list_all, position_or_len, prefix_len}
use Rattle.std.specs.Option.{option_and_then}
use Rattle.std.specs.Str.{bytes_eq}
use Rattle.std.specs.Str.Parse.{digits_value}
use Rattle.byteview.specs.Numbers.{HasText, be_at, part, text}
use Rattle.elf_model.specs.declared.faults.ArFault.{ArFault}
use Rattle.elf_model.specs.declared.faults.ArFault.TheVariants as fault

-- the bytes begin as every archive does (ar(5), ARMAG)
abbrev pub HasMagic : List ℕ → Type 0
HasMagic bytes = take 8 bytes ≡ codes "!<arch>\n"

-- a member's header of 60 bytes (ar(5), struct ar_hdr): the profile reads these three fields, and no date, owner, group and mode
pub record MemberHeader : Type 0 where
  pub ar_name : List ℕ
  pub ar_size : List ℕ
  pub ar_fmag : List ℕ

abbrev pub member_header : List ℕ → ℕ → MemberHeader
member_header bytes at = record { ar_name = part bytes at 16; ar_size = part bytes (at + 48) 10; ar_fmag = part bytes (at + 58) 2 }

-- a field of one or more decimal digits and, behind them, spaces alone; and the number that it spells
abbrev pub is_space : ℕ → Bool
is_space b = b == 32

abbrev pub digit_count : List ℕ → ℕ
digit_count field = prefix_len is_ascii_digit field

abbrev pub is_number : List ℕ → Bool
is_number field = nat_lt 0 (digit_count field) && list_all is_space (drop (digit_count field) field)

abbrev pub number : List ℕ → ℕ
number field = digits_value 10 (take (digit_count field) field)

-- the header at an offset can be read: it lies inside, ends in ARFMAG and has a size
abbrev pub is_readable : List ℕ → ℕ → Bool
is_readable bytes at =
    nat_le (at + 60) (length bytes) && bytes_eq (member_header bytes at).ar_fmag (codes "`\n") && is_number (member_header bytes at).ar_size

-- of the member whose header is at an offset: the number of its bytes, where they end, and where the next header is due, which is at an even offset
abbrev pub size_at : List ℕ → ℕ → ℕ
size_at bytes at = number (member_header bytes at).ar_size

abbrev pub end_at : List ℕ → ℕ → ℕ
end_at bytes at = at + 60 + size_at bytes at

abbrev pub next_header : List ℕ → ℕ → ℕ
next_header bytes at = end_at bytes at + size_at bytes at % 2

-- where the headers are, from an offset on, one after the other up to the end of the bytes; behind one that can't be read no other is found. n is more than there can be.
abbrev pub header_offsets_from : ℕ → List ℕ → ℕ → List ℕ
header_offsets_from zero bytes at = []
header_offsets_from (suc n) bytes at =
    if nat_lt at (length bytes) then at ∷ (if is_readable bytes at then header_offsets_from n bytes (next_header bytes at) else []) else []

-- where the headers of a file are
abbrev pub header_offsets : List ℕ → List ℕ
header_offsets bytes = header_offsets_from (length bytes) bytes 8

-- a member as it is stored: the offset of its header, its name with the spaces behind it, its data
pub record StoredMember : Type 0 where
  pub offset : ℕ
  pub name : List ℕ
  pub bytes : List ℕ

abbrev pub stored_member : List ℕ → ℕ → StoredMember
stored_member bytes at = record { offset = at; name = (member_header bytes at).ar_name; bytes = part bytes (at + 60) (size_at bytes at) }

-- all members whose headers can be read, the index and the long names too
abbrev pub stored_members : List ℕ → List StoredMember
stored_members bytes = map (stored_member bytes) (filter (is_readable bytes) (header_offsets bytes))

-- a member that is not there counts as one without a name and data
abbrev pub null_member : StoredMember
null_member = record { offset = 0; name = []; bytes = [] }

-- a name and the spaces that make it 16 bytes
unfoldable pub padded : List ℕ → List ℕ
padded name = name ++ replicate (16 - length name) 32

-- the symbol index, with numbers of 8 bytes or of 4, and the long names
abbrev pub is_wide_index : StoredMember → Bool
is_wide_index m = bytes_eq m.name (padded (codes "/SYM64/"))

abbrev pub is_index : StoredMember → Bool
is_index m = bytes_eq m.name (padded (codes "/")) || is_wide_index m

abbrev pub is_long_names : StoredMember → Bool
is_long_names m = bytes_eq m.name (padded (codes "//"))

-- the ordinary members are all others
abbrev pub is_ordinary : StoredMember → Bool
is_ordinary m = not (is_index m || is_long_names m)

-- an ordinary member: the offset of its header, and its data
pub record Member : Type 0 where
  pub offset : ℕ
  pub bytes : List ℕ

abbrev pub member_of : StoredMember → Member
member_of m = record { offset = m.offset; bytes = m.bytes }

-- the ordinary members in the file's order
abbrev pub ordinary : List StoredMember → List Member
ordinary ms = map member_of (filter is_ordinary ms)

abbrev pub members : List ℕ → List Member
members bytes = ordinary (stored_members bytes)

-- the data of the ordinary member whose header is at an offset; None where no such header is
abbrev pub data_of : List Member → ℕ → Option (List ℕ)
data_of ms at = option_map (λ m. m.bytes) (find (λ m. m.offset == at) ms)

abbrev pub member_at : List ℕ → ℕ → Option (List ℕ)
member_at bytes at = data_of (members bytes) at

-- an entry of the index: a symbol's name, and the offset of the header of the member that defines it
pub record IndexEntry : Type 0 where
  pub name : List ℕ
  pub offset : ℕ

-- what follows the text at the beginning of strings, and the NUL that ends it
abbrev pub after_text : List ℕ → List ℕ
after_text strings = drop (length (text strings 0) + 1) strings

-- c entries: each takes a number of w bytes and a text
abbrev pub entries_from : ℕ → ℕ → List ℕ → List ℕ → List IndexEntry
entries_from zero w numbers strings = []
entries_from (suc c) w numbers strings =
    record { name = text strings 0; offset = be_at w numbers 0 } ∷ entries_from c w (drop w numbers) (after_text strings)

-- in an index's data with numbers of w bytes: the number of entries, the numbers, the texts behind them, and the entries
abbrev pub entry_count : ℕ → List ℕ → ℕ
entry_count w index_data = be_at w index_data 0

abbrev pub index_strings : ℕ → List ℕ → List ℕ
index_strings w index_data = drop (w + w * entry_count w index_data) index_data

abbrev pub index_entries : ℕ → List ℕ → List IndexEntry
index_entries w index_data = entries_from (entry_count w index_data) w (drop w index_data) (index_strings w index_data)

-- how many bytes a number of the index has
abbrev pub width_of : StoredMember → ℕ
width_of m = if is_wide_index m then 8 else 4

-- the index, in its order: that of the first member; None where this is no index
abbrev pub index_of : StoredMember → Option (List IndexEntry)
index_of m = if is_index m then Some (index_entries (width_of m) m.bytes) else None

abbrev pub index_in : List StoredMember → Option (List IndexEntry)
index_in ms = option_and_then index_of (slice_get ms 0)

abbrev pub index : List ℕ → Option (List IndexEntry)
index bytes = index_in (stored_members bytes)

-- the long names: the data of the first member of that name; none without one
abbrev pub long_names : List StoredMember → List ℕ
long_names ms = unwrap_or (option_map (λ m. m.bytes) (find is_long_names ms)) []

-- a header lies inside, and where it can be read so do the data and the byte that makes their number even
pub record IsWhole (bytes : List ℕ) (at : ℕ) : Type 0 where
  pub header : at + 60 ≤ length bytes
  pub data_and_pad : IsTrue (is_readable bytes at) → next_header bytes at ≤ length bytes

-- a header that lies inside ends in ARFMAG and has a size, and an odd number of bytes is followed by a line feed
pub record IsGoodHeader (bytes : List ℕ) (at : ℕ) : Type 0 where
  pub fmag : at + 60 ≤ length bytes → (member_header bytes at).ar_fmag ≡ codes "`\n"
  pub size : at + 60 ≤ length bytes → IsTrue (is_number (member_header bytes at).ar_size)
  pub pad : size_at bytes at % 2 ≡ 1 → end_at bytes at < length bytes → slice_index bytes (end_at bytes at) ≡ 10

-- a short name: one or more bytes other than a slash, a slash, and spaces
abbrev pub is_slash : ℕ → Bool
is_slash b = b == 47

abbrev pub slash_at : List ℕ → ℕ
slash_at name = position_or_len is_slash name

pub record IsShortName (name : List ℕ) : Type 0 where
  pub some : 0 < slash_at name
  pub slash : slash_at name < length name
  pub spaces : IsTrue (list_all is_space (drop (slash_at name + 1) name))

-- a slash and a line feed end the text that begins at an offset of the long names
abbrev pub HasLongText : List ℕ → ℕ → Type 0
HasLongText names at = (k : ℕ) × (at ≤ k) × (part names k 2 ≡ codes "/\n")

-- a long name: a slash, and the decimal offset of its text
pub record IsLongName (names name : List ℕ) : Type 0 where
  pub slash : take 1 name ≡ codes "/"
  pub decimal : IsTrue (is_number (drop 1 name))
  pub ended : HasLongText names (number (drop 1 name))

-- a member has a name, where these are the long names
abbrev pub IsNamed : List ℕ → StoredMember → Type 0
IsNamed names m = IsTrue (is_index m) ⊎ IsTrue (is_long_names m) ⊎ IsShortName m.name ⊎ IsLongName names m.name

-- the long names stand at most once, before the members that use them, and every member has a name
pub record HasGoodNames (ms : List StoredMember) : Type 0 where
  pub one : count_by is_long_names ms ≤ 1
  pub each : EachIndex ms (λ i. IsNamed (long_names (take i ms)) (slice_index_or ms i null_member))

-- c texts, each ended by a NUL, and behind them zero bytes alone
abbrev pub AreTexts : ℕ → List ℕ → Type 0
AreTexts zero strings = All (λ b. b ≡ 0) strings
AreTexts (suc c) strings = HasText strings 0 × AreTexts c (after_text strings)

-- an index's data with numbers of w bytes (ar(5); most significant byte first): how many entries there are, the number of each, the name of each
pub record IsIndexData (w : ℕ) (index_data : List ℕ) : Type 0 where
  pub count : w ≤ length index_data
  pub numbers : w + w * entry_count w index_data ≤ length index_data
  pub names : AreTexts (entry_count w index_data) (index_strings w index_data)

-- no member but the first is an index
abbrev pub IsIndexFirst : List StoredMember → Type 0
IsIndexFirst ms = All (λ m. is_index m ≡ false) (drop 1 ms)

-- where the first member is an index, its data are those of one
abbrev pub HasIndexData : List StoredMember → Type 0
HasIndexData ms = IfSome (slice_get ms 0) (λ m. IsTrue (is_index m) → IsIndexData (width_of m) m.bytes)

-- an entry of the index names an ordinary member
abbrev pub NamesMember : List ℕ → IndexEntry → Type 0
NamesMember bytes e = IsSome (member_at bytes e.offset)

-- the entries of a file's index; none without an index
abbrev pub entries_of : List ℕ → List IndexEntry
entries_of bytes = unwrap_or (index bytes) []

-- the index of a good file
pub record HasGoodIndex (bytes : List ℕ) : Type 0 where
  pub first : IsIndexFirst (stored_members bytes)
  pub form : HasIndexData (stored_members bytes)
  pub entries : All (NamesMember bytes) (entries_of bytes)

-- the bytes are an archive of this profile: one field a fault
pub record IsArchive (bytes : List ℕ) : Type 0 where
  pub magic : HasMagic bytes
  pub whole : All (IsWhole bytes) (header_offsets bytes)
  pub headers : All (IsGoodHeader bytes) (header_offsets bytes)
  pub index : HasGoodIndex bytes
  pub names : HasGoodNames (stored_members bytes)
  pub size : length bytes < 2 ^ 32

-- the member whose header is at an offset can be read and lies inside
pub record IsIntact (bytes : List ℕ) (at : ℕ) : Type 0 where
  pub readable : IsTrue (is_readable bytes at)
  pub inside : next_header bytes at ≤ length bytes

-- which members begin at an offset or before it is known
abbrev pub IsKnownUpTo : List ℕ → ℕ → Type 0
IsKnownUpTo bytes offset = All (λ at. at ≤ offset → IsIntact bytes at) (header_offsets bytes)

-- a fault of the bytes as an archive. NotArchive excludes those of its members, and what a truncated or unreadable member denies is judged by its fault alone: the data of the index, and the entries that name an offset from that member on.
abbrev pub ArFaultStands : List ℕ → ArFault → Type 0
ArFaultStands bytes fault.Memory = Unit {0}
ArFaultStands bytes fault.NotArchive = ¬ HasMagic bytes
ArFaultStands bytes fault.Truncated = HasMagic bytes × (¬ All (IsWhole bytes) (header_offsets bytes))
ArFaultStands bytes fault.BadHeader = HasMagic bytes × (¬ All (IsGoodHeader bytes) (header_offsets bytes))
ArFaultStands bytes fault.BadIndex =
    HasMagic bytes
    × ((¬ IsIndexFirst (stored_members bytes))
    ⊎ (IsIntact bytes 8 × (¬ HasIndexData (stored_members bytes)))
    ⊎ (IsIntact bytes 8 × (¬ All (λ e. IsKnownUpTo bytes e.offset → NamesMember bytes e) (entries_of bytes))))
ArFaultStands bytes fault.BadName = HasMagic bytes × (¬ HasGoodNames (stored_members bytes))
ArFaultStands bytes fault.TooMany = 2 ^ 32 ≤ length bytes
