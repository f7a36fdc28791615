-- Which symbol a name means (System V gABI 4, "Symbol Table"; what is refused is the profile's).
use Rattle.std.specs.Prelude.{◌≡◌, ◌≢◌, ℕ, ◌+◌, ◌/◌, ◌%◌, ◌^◌, ◌<◌, ◌≤◌, ◌==◌, ◌&&◌, Bool, true, false, not, cond, List, [], ◌∷◌, ◌++◌, Option, Some, None, All, filter, length, unwrap_or, find, count_by, IfSome, IsSomeAnd}
use Rattle.std.specs.Option.{option_map_or, option_or}
use Rattle.std.specs.Int.{IsPowerOfTwo}
use Rattle.std.specs.List.{slice_get}
use Rattle.std.specs.Str.{bytes_eq}
use Rattle.elf_model.specs.Link.Loading.{LoadedObject, is_dropped}
use Rattle.elf_model.specs.Inputs.ObjectFile.{sections, symbols, symbol_name}
use Rattle.elf_model.specs.Link.Pieces.{is_alloc, is_thread_local}
use Rattle.elf_model.specs.declared.constants.TheConstants.{SHN_ABS, SHN_COMMON, SHN_UNDEF, STB_GLOBAL, STB_WEAK, STT_TLS}
use Rattle.elf_model.specs.declared.records.SectionHeader.{SectionHeader}
use Rattle.elf_model.specs.declared.records.Symbol.{Symbol}

-- the high and the low half of st_info
abbrev pub binding : Symbol → ℕ
binding s = s.st_info / 16

abbrev pub symbol_type : Symbol → ℕ
symbol_type s = s.st_info % 16

abbrev pub is_global : Symbol → Bool
is_global s = binding s == STB_GLOBAL

abbrev pub is_weak : Symbol → Bool
is_weak s = binding s == STB_WEAK

abbrev pub is_undefined : Symbol → Bool
is_undefined s = s.st_shndx == SHN_UNDEF

abbrev pub is_absolute : Symbol → Bool
is_absolute s = s.st_shndx == SHN_ABS

abbrev pub is_common : Symbol → Bool
is_common s = s.st_shndx == SHN_COMMON

-- a symbol of an object: the object's number, its own, its name and entry, and whether it stands in a section that
-- is dropped
pub record SymbolOf : Type 0 where
  pub object : ℕ
  pub number : ℕ
  pub name : List ℕ
  pub entry : Symbol
  pub dropped : Bool

-- symbol j of an object, which has the entry
abbrev pub symbol_of : ℕ → LoadedObject → ℕ → Symbol → SymbolOf
symbol_of object o j s = record {
  object = object;
  number = j;
  name = unwrap_or (symbol_name o.bytes j) [];
  entry = s;
  dropped = is_dropped o s.st_shndx;
}

abbrev pub symbols_from : ℕ → LoadedObject → ℕ → List Symbol → List SymbolOf
symbols_from object o j [] = []
symbols_from object o j (s ∷ ss) = symbol_of object o j s ∷ symbols_from object o (j + 1) ss

abbrev pub symbols_of : ℕ → List LoadedObject → List SymbolOf
symbols_of k [] = []
symbols_of k (o ∷ os) = symbols_from k o 0 (symbols o.bytes) ++ symbols_of (k + 1) os

-- the symbols of all objects, in load order
abbrev pub all_symbols : List LoadedObject → List SymbolOf
all_symbols objects = symbols_of 0 objects

-- A definition stands in a section or is absolute; it is strong where it is GLOBAL, and weak where it is WEAK. One in a
-- dropped section counts as undefined. A GLOBAL common symbol asks for a block.
abbrev pub is_placed_symbol : Symbol → Bool
is_placed_symbol s = not (is_undefined s) && not (is_common s)

abbrev pub is_strong : SymbolOf → Bool
is_strong s = is_global s.entry && (is_placed_symbol s.entry && not s.dropped)

abbrev pub is_weak_definition : SymbolOf → Bool
is_weak_definition s = is_weak s.entry && (is_placed_symbol s.entry && not s.dropped)

abbrev pub is_common_definition : SymbolOf → Bool
is_common_definition s = is_global s.entry && (is_common s.entry && not s.dropped)

abbrev pub strong_definitions : List LoadedObject → List SymbolOf
strong_definitions objects = filter is_strong (all_symbols objects)

abbrev pub weak_definitions : List LoadedObject → List SymbolOf
weak_definitions objects = filter is_weak_definition (all_symbols objects)

abbrev pub common_symbols : List LoadedObject → List SymbolOf
common_symbols objects = filter is_common_definition (all_symbols objects)

abbrev pub has_name : List ℕ → SymbolOf → Bool
has_name name s = bytes_eq s.name name

-- the chosen definition of a name: the first strong one in load order; else the first common one, which stands for the
-- name's block; else the first weak one; else none
abbrev pub chosen : List LoadedObject → List ℕ → Option SymbolOf
chosen objects name =
    option_or (find (has_name name) (strong_definitions objects))
    (option_or (find (has_name name) (common_symbols objects)) (find (has_name name) (weak_definitions objects)))

-- a name has two strong definitions, or it has not
abbrev pub IsDuplicate : List LoadedObject → List ℕ → Type 0
IsDuplicate objects name = 2 ≤ count_by (has_name name) (strong_definitions objects)

abbrev pub AreUnique : List LoadedObject → Type 0
AreUnique objects = (name : List ℕ) → count_by (has_name name) (strong_definitions objects) ≤ 1

-- the section in which a symbol is defined, None where it is undefined, absolute or common
abbrev pub sections_of_object : Option LoadedObject → List SectionHeader
sections_of_object None = []
sections_of_object (Some o) = sections o.bytes

abbrev pub section_of : List LoadedObject → SymbolOf → Option SectionHeader
section_of objects s =
    cond (is_undefined s.entry) None (slice_get (sections_of_object (slice_get objects s.object)) s.entry.st_shndx)

-- a GLOBAL or WEAK symbol's section is kept, and a symbol of a kept section lies within it or at its end
pub record StandsWell (s : Symbol) (h : SectionHeader) : Type 0 where
  pub kept : 1 ≤ binding s → is_alloc h ≡ true
  pub within : is_alloc h ≡ true → s.st_value ≤ h.sh_size

-- a symbol that is sound: a GLOBAL or WEAK one has a name, and stands in a kept section or in a dropped one where it
-- stands in one at all; one of any binding in a kept section lies within it or at its end
pub record IsSoundSymbol (objects : List LoadedObject) (s : SymbolOf) : Type 0 where
  pub named : 1 ≤ binding s.entry → 0 < length s.name
  pub kept : 1 ≤ binding s.entry → s.dropped ≡ false → IfSome (section_of objects s) (λ h. is_alloc h ≡ true)
  pub within : s.dropped ≡ false → IfSome (section_of objects s) (λ h. is_alloc h ≡ true → s.entry.st_value ≤ h.sh_size)

abbrev pub AreSoundSymbols : List LoadedObject → Type 0
AreSoundSymbols objects = All (IsSoundSymbol objects) (all_symbols objects)

-- a common symbol that is sound: GLOBAL, of another type than TLS, and its st_value, which is an alignment, a power of
-- two up to 2 ^ 21
pub record IsSoundCommon (s : SymbolOf) : Type 0 where
  pub binding_ : is_common s.entry ≡ true → is_global s.entry ≡ true
  pub type_ : is_common s.entry ≡ true → symbol_type s.entry ≢ STT_TLS
  pub align : is_common s.entry ≡ true → IsPowerOfTwo s.entry.st_value × (s.entry.st_value ≤ 2 ^ 21)

abbrev pub AreSoundCommons : List LoadedObject → Type 0
AreSoundCommons objects = All IsSoundCommon (all_symbols objects)

-- the symbol stands in a section with SHF_TLS
abbrev pub is_in_thread_section : List LoadedObject → SymbolOf → Bool
is_in_thread_section objects s = option_map_or is_thread_local (section_of objects s) false

-- the entry has a chosen definition, which stands in no section with SHF_TLS
abbrev pub IsEntry : List LoadedObject → List ℕ → Type 0
IsEntry objects name = IsSomeAnd (chosen objects name) (λ s. is_in_thread_section objects s ≡ false)
