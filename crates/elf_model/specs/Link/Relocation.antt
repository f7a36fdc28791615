-- Relocations: the kinds, which entries are kept, what they refer to, their values and their fields (AMD64
-- psABI 4.4, "Relocation"; ELF Handling For Thread-Local Storage for the kinds of the thread offset; the
-- ranges of all kinds but 32 and 32S are the profile's).
use Rattle.std.specs.Prelude.{◌≡◌, ◌≢◌, ◌⊎◌, ℕ, ℤ, pos, ◌+ℤ◌, ◌-ℤ◌, unsigned_abs, ◌+◌, ◌-◌, ◌^◌, ◌<◌, ◌≤◌, ◌==◌, ◌&&◌, Bool, true, false, not, cond, List, [], ◌∷◌, ◌++◌, Option, Some, None, IsSome, IsSomeAnd, IfSome, All, AllPairs, codes, filter, find, map, nat_le, nat_lt, option_map, slice_index_or, unwrap_or}
use Rattle.std.specs.Int.{int_rem_euclid}
use Rattle.std.specs.Option.{option_map_or}
use Rattle.std.specs.Str.{bytes_eq}
use Rattle.elf_model.specs.Link.Loading.{LoadedObject, is_dropped}
use Rattle.elf_model.specs.Inputs.ObjectFile.{null_symbol, rela_symbol, rela_type, relas_of, section, section_name, sections, symbols}
use Rattle.elf_model.specs.Link.Pieces.{AreOneOutput, is_alloc, is_kept}
use Rattle.elf_model.specs.Link.LinkerNames.{named_output}
use Rattle.elf_model.specs.Link.Meaning.{Common, Linker, Meaning, Symbol, is_in_thread_storage, meaning}
use Rattle.elf_model.specs.Link.Resolution.{SymbolOf, binding, is_undefined, section_of, symbol_of}
use Rattle.elf_model.specs.declared.bound.Bound.{Bound}
use Rattle.elf_model.specs.declared.bound.Bound.TheVariants.{OutputEnd, OutputStart}
use Rattle.elf_model.specs.declared.constants.TheConstants.{R_X86_64_NONE, R_X86_64_64, R_X86_64_PC32, R_X86_64_GOT32, R_X86_64_PLT32, R_X86_64_GOTPCREL, R_X86_64_32, R_X86_64_32S, R_X86_64_16, R_X86_64_PC16, R_X86_64_8, R_X86_64_PC8, R_X86_64_TPOFF64, R_X86_64_GOTTPOFF, R_X86_64_TPOFF32, R_X86_64_PC64, R_X86_64_GOTOFF64, R_X86_64_GOTPC32, R_X86_64_GOT64, R_X86_64_GOTPCREL64, R_X86_64_GOTPC64, R_X86_64_SIZE32, R_X86_64_SIZE64, R_X86_64_GOTPCRELX, R_X86_64_REX_GOTPCRELX, SHT_RELA, STB_LOCAL, STB_WEAK}
use Rattle.elf_model.specs.declared.records.Rela.{Rela}
use Rattle.elf_model.specs.declared.records.SectionHeader.{SectionHeader}

-- The kinds.

-- what a value is made of: S the symbol's value, A the addend, P the field's address, G the slot's offset in
-- the GOT, GOT its address, Z the symbol's size, T the offset of S from the thread pointer, GT the offset in the
-- GOT of a slot that holds T
pub data Formula : Type 0 where
  S+A : Formula
  S+A-P : Formula
  S+A-GOT : Formula
  G+A : Formula
  G+GOT+A-P : Formula
  GOT+A-P : Formula
  Z+A : Formula
  T+A : Formula
  GT+GOT+A-P : Formula

-- which values fit a field: all; those that are a signed number of the field's bits; an unsigned one; either
pub data Range : Type 0 where
  Always : Range
  Signed : Range
  Unsigned : Range
  Either : Range

-- a kind: its number, its field's width in bytes, its formula and its range
pub record Kind : Type 0 where
  pub number : ℕ
  pub width : ℕ
  pub formula : Formula
  pub range : Range

abbrev pub kind : ℕ → ℕ → Formula → Range → Kind
kind number width formula range = record { number = number; width = width; formula = formula; range = range }

abbrev pub kinds : List Kind
kinds =
    kind R_X86_64_64 8 S+A Always
    ∷ kind R_X86_64_PC32 4 S+A-P Signed
    ∷ kind R_X86_64_GOT32 4 G+A Signed
    ∷ kind R_X86_64_PLT32 4 S+A-P Signed
    ∷ kind R_X86_64_GOTPCREL 4 G+GOT+A-P Signed
    ∷ kind R_X86_64_32 4 S+A Unsigned
    ∷ kind R_X86_64_32S 4 S+A Signed
    ∷ kind R_X86_64_16 2 S+A Either
    ∷ kind R_X86_64_PC16 2 S+A-P Signed
    ∷ kind R_X86_64_8 1 S+A Either
    ∷ kind R_X86_64_PC8 1 S+A-P Signed
    ∷ kind R_X86_64_TPOFF64 8 T+A Always
    ∷ kind R_X86_64_GOTTPOFF 4 GT+GOT+A-P Signed
    ∷ kind R_X86_64_TPOFF32 4 T+A Signed
    ∷ kind R_X86_64_PC64 8 S+A-P Always
    ∷ kind R_X86_64_GOTOFF64 8 S+A-GOT Always
    ∷ kind R_X86_64_GOTPC32 4 GOT+A-P Signed
    ∷ kind R_X86_64_GOT64 8 G+A Always
    ∷ kind R_X86_64_GOTPCREL64 8 G+GOT+A-P Always
    ∷ kind R_X86_64_GOTPC64 8 GOT+A-P Always
    ∷ kind R_X86_64_SIZE32 4 Z+A Unsigned
    ∷ kind R_X86_64_SIZE64 8 Z+A Always
    ∷ kind R_X86_64_GOTPCRELX 4 G+GOT+A-P Signed
    ∷ kind R_X86_64_REX_GOTPCRELX 4 G+GOT+A-P Signed
    ∷ []

-- the kind of a type, None where the table has none; R_X86_64_NONE relocates nothing
unfoldable pub kind_of : ℕ → Option Kind
kind_of number = find (λ k. k.number == number) kinds

-- Which entries are kept.

-- an entry that relocates a section of an object: the object's number, the section's number, name and size, the
-- entry, and the symbol that it names
pub record Relocation : Type 0 where
  pub object : ℕ
  pub section : ℕ
  pub name : List ℕ
  pub size : ℕ
  pub entry : Rela
  pub symbol : SymbolOf

-- symbol number j of an object
abbrev pub symbol_at : ℕ → LoadedObject → ℕ → SymbolOf
symbol_at object o j = symbol_of object o j (slice_index_or (symbols o.bytes) j null_symbol)

abbrev pub relocation_of : ℕ → LoadedObject → ℕ → Rela → Relocation
relocation_of object o k r = record {
  object = object;
  section = k;
  name = unwrap_or (section_name o.bytes k) [];
  size = (section (sections o.bytes) k).sh_size;
  entry = r;
  symbol = symbol_at object o (rela_symbol r);
}

-- the entries of a RELA section of which the type isn't NONE
abbrev pub is_some_kind : Rela → Bool
is_some_kind r = not (rela_type r == R_X86_64_NONE)

abbrev pub relocations_in : ℕ → LoadedObject → SectionHeader → List Relocation
relocations_in object o h = map (relocation_of object o h.sh_info) (filter is_some_kind (relas_of o.bytes h))

-- section i of an object, which has the header, is a RELA section that isn't dropped and relocates a kept one
abbrev pub is_kept_rela : LoadedObject → ℕ → SectionHeader → Bool
is_kept_rela o i h =
    h.sh_type == SHT_RELA && (not (is_dropped o i) && is_kept o h.sh_info (section (sections o.bytes) h.sh_info))

-- the kept relocations of one object, from section number i on
abbrev pub relocations_behind : ℕ → LoadedObject → ℕ → List SectionHeader → List Relocation
relocations_behind object o i [] = []
relocations_behind object o i (h ∷ hs) =
    cond (is_kept_rela o i h) (relocations_in object o h) [] ++ relocations_behind object o (i + 1) hs

abbrev pub relocations_from : ℕ → LoadedObject → List Relocation
relocations_from object o = relocations_behind object o 0 (sections o.bytes)

-- the kept relocations of all objects from number k on, in load order
abbrev pub relocations_of : ℕ → List LoadedObject → List Relocation
relocations_of k [] = []
relocations_of k (o ∷ os) = relocations_from k o ++ relocations_of (k + 1) os

abbrev pub relocations : List LoadedObject → List Relocation
relocations objects = relocations_of 0 objects

-- What a relocation refers to.

abbrev pub is_local : SymbolOf → Bool
is_local s = binding s.entry == STB_LOCAL

-- what a relocation uses: the meaning of its name, or the symbol itself where that is LOCAL
abbrev pub definition_of : List LoadedObject → SymbolOf → Option Meaning
definition_of objects s = cond (is_local s) (cond (is_undefined s.entry) None (Some (Symbol s))) (meaning objects s.name)

-- a reference without a definition; symbol number 0 stands for none, and a WEAK one needs none
abbrev pub IsUndefined : List LoadedObject → SymbolOf → Type 0
IsUndefined objects s = (s.number ≢ 0) × (binding s.entry ≢ STB_WEAK) × (definition_of objects s ≡ None)

-- it relocates .eh_frame and names a symbol of a dropped section: the frames of what is dropped stand there, unedited
abbrev pub is_frame_of_dropped : Relocation → Bool
is_frame_of_dropped r = r.symbol.dropped && bytes_eq r.name (codes ".eh_frame")

-- it names a LOCAL symbol of a section that isn't kept, and isn't such a frame's
abbrev pub RefersToDropped : List LoadedObject → Relocation → Type 0
RefersToDropped objects r =
    (is_local r.symbol ≡ true)
    × (is_frame_of_dropped r ≡ false)
    × IsSomeAnd (section_of objects r.symbol) (λ h. (is_alloc h && not r.symbol.dropped) ≡ false)

-- what it uses stands in a section with SHF_TLS
abbrev pub is_thread_local_use : List LoadedObject → Relocation → Bool
is_thread_local_use objects r = option_map_or (is_in_thread_storage objects) (definition_of objects r.symbol) false

-- It uses a name of the linker's for where the sections of an output name begin or end, and these are of several
-- output sections.
abbrev pub IsMixedBound : List LoadedObject → List ℕ → Bound → Type 0
IsMixedBound objects name OutputStart = ¬ AreOneOutput objects (named_output name)
IsMixedBound objects name OutputEnd = ¬ AreOneOutput objects (named_output name)
IsMixedBound objects name _ = ⊥

abbrev pub IsMixed : List LoadedObject → Meaning → Type 0
IsMixed objects (Symbol s) = ⊥
IsMixed objects (Common b) = ⊥
IsMixed objects (Linker name bound) = IsMixedBound objects name bound

abbrev pub RefersToMixed : List LoadedObject → Relocation → Type 0
RefersToMixed objects r = IsSomeAnd (definition_of objects r.symbol) (IsMixed objects)

-- Values.

-- what the letters of the formulas stand for, but GT, which is G of its own slot (RelocationValues says of a relocation)
pub record Terms : Type 0 where
  pub s : ℕ
  pub a : ℤ
  pub p : ℕ
  pub g : ℕ
  pub got : ℕ
  pub z : ℕ
  pub t : ℤ

abbrev pub whole_value : Formula → Terms → ℤ
whole_value S+A x = pos x.s +ℤ x.a
whole_value S+A-P x = (pos x.s +ℤ x.a) -ℤ pos x.p
whole_value S+A-GOT x = (pos x.s +ℤ x.a) -ℤ pos x.got
whole_value G+A x = pos x.g +ℤ x.a
whole_value G+GOT+A-P x = (pos (x.g + x.got) +ℤ x.a) -ℤ pos x.p
whole_value GOT+A-P x = (pos x.got +ℤ x.a) -ℤ pos x.p
whole_value Z+A x = pos x.z +ℤ x.a
whole_value T+A x = x.t +ℤ x.a
whole_value GT+GOT+A-P x = (pos (x.g + x.got) +ℤ x.a) -ℤ pos x.p

-- a whole number modulo 2 ^ 64
abbrev pub modulo_64 : ℤ → ℕ
modulo_64 v = unsigned_abs (int_rem_euclid v (pos (2 ^ 64)))

abbrev pub relocation_kind : Relocation → Option Kind
relocation_kind r = kind_of (rela_type r.entry)

-- a value of 64 bits fits a field of n bits
abbrev pub IsSigned : ℕ → ℕ → Type 0
IsSigned n v = (v < 2 ^ (n - 1)) ⊎ (2 ^ 64 - 2 ^ (n - 1) ≤ v)

abbrev pub IsInRange : Range → ℕ → ℕ → Type 0
IsInRange Always n v = Unit {0}
IsInRange Signed n v = IsSigned n v
IsInRange Unsigned n v = v < 2 ^ n
IsInRange Either n v = (v < 2 ^ n) ⊎ IsSigned n v

-- Fields.

-- the width of a relocation's field in bytes; one of no kind has none
abbrev pub width_of : Relocation → ℕ
width_of r = unwrap_or (option_map (λ k. k.width) (relocation_kind r)) 0

-- byte k of a section of an object lies in the field
abbrev pub is_in_field : ℕ → ℕ → ℕ → Relocation → Bool
is_in_field object s k r =
    (r.object == object) && (r.section == s) && nat_le r.entry.r_offset k && nat_lt k (r.entry.r_offset + width_of r)

-- the field lies inside its section; one of no kind has no field
abbrev pub IsFieldInside : Relocation → Type 0
IsFieldInside r = IfSome (relocation_kind r) (λ k. r.entry.r_offset + k.width ≤ r.size)

-- no byte of a section lies in both fields
abbrev pub AreFieldsApart : Relocation → Relocation → Type 0
AreFieldsApart r t = (object s k : ℕ) → is_in_field object s k r ≡ true → is_in_field object s k t ≡ true → ⊥

-- Thread-local storage: a thread offset is asked of what stands in it alone, a size of anything, and every
-- other value of what stands outside.
abbrev pub IsMismatch : Formula → Bool → Type 0
IsMismatch T+A inside = inside ≡ false
IsMismatch GT+GOT+A-P inside = inside ≡ false
IsMismatch Z+A inside = ⊥
IsMismatch _ inside = inside ≡ true

abbrev pub IsThreadMismatch : List LoadedObject → Relocation → Type 0
IsThreadMismatch objects r = IsSomeAnd (relocation_kind r) (λ k. IsMismatch k.formula (is_thread_local_use objects r))

-- What is asked of kept relocations: of each a known kind, a lawful symbol, a kind for what that symbol is, a field
-- inside its section, and no bound of several output sections; fields that are apart; and values that fit.
pub record IsLawfulRelocation (objects : List LoadedObject) (r : Relocation) : Type 0 where
  pub known : IsSome (relocation_kind r)
  pub defined : ¬ IsUndefined objects r.symbol
  pub kept : ¬ RefersToDropped objects r
  pub thread : ¬ IsThreadMismatch objects r
  pub inside : IsFieldInside r
  pub unmixed : ¬ RefersToMixed objects r

pub record AreLawfulRelocations (objects : List LoadedObject) : Type 0 where
  pub each : All (IsLawfulRelocation objects) (relocations objects)
  pub apart : AllPairs AreFieldsApart (relocations objects)
