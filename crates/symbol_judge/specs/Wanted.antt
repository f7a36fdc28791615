-- What an entry of a symbol table has to be, by what its name means and where that is.
use Rattle.std.specs.Prelude.{◌≡◌, ◌⊎◌, ℕ, ◌+◌, ◌-◌, ◌%◌, ◌^◌, ◌<◌, ◌≤◌, ◌==◌, ◌&&◌, Bool, true, false, cond, List, None, Option, Some, IfSome, IsSomeAnd, find, length, nat_le, option_map, unwrap_or}
use Rattle.std.specs.List.{slice_get}
use Rattle.std.specs.Option.{option_map_or}
use Rattle.elf_model.specs.Link.LinkerValues.{start_of_pieces}
use Rattle.elf_model.specs.Link.Loading.{LoadedObject}
use Rattle.elf_model.specs.Link.Meaning.{Common, Linker, Meaning, Symbol, is_in_thread_storage}
use Rattle.elf_model.specs.Link.Pieces.{is_alloc, is_thread_piece}
use Rattle.elf_model.specs.Link.Placement.{Placed, is_of_section}
use Rattle.elf_model.specs.Link.Resolution.{SymbolOf, binding, is_undefined, symbol_type}
use Rattle.elf_model.specs.declared.constants.TheConstants.{SHN_ABS, SHN_LORESERVE, STB_LOCAL, STT_NOTYPE, STT_OBJECT}
use Rattle.elf_model.specs.declared.records.SectionHeader.{SectionHeader}
use Rattle.elf_model.specs.declared.records.Symbol as entry
use Rattle.judge_model.specs.Tables.{shn_xindex}
use Rattle.symbol_judge.specs.declared.wanted.Wanted.{Wanted}

-- the size of the first piece of a section, where one is placed; a symbol's section is placed, and has nothing
abbrev pub size_of_section : List Placed → ℕ → ℕ → Option ℕ
size_of_section placed object section = option_map (λ q. q.piece.size) (find (is_of_section object section) placed)

abbrev pub is_in_empty : List Placed → SymbolOf → Bool
is_in_empty placed s = option_map_or (λ q. q.piece.size == 0) (find (is_of_section s.object s.entry.st_shndx) placed) false

abbrev pub takes_no_memory : List Placed → Meaning → Bool
takes_no_memory placed (Symbol s) = is_in_empty placed s
takes_no_memory placed (Common b) = false
takes_no_memory placed (Linker name bound) = true

-- where the block of thread-local storage begins, and the value of the entry of what has a value
abbrev pub block_start : List Placed → ℕ
block_start placed = unwrap_or (start_of_pieces is_thread_piece placed) 0

abbrev pub entry_value : List LoadedObject → List Placed → Meaning → ℕ → ℕ
entry_value objects placed m v = cond (is_in_thread_storage objects m) (v - block_start placed) (v % 2 ^ 64)

-- its size, type and binding, None where it may have any
abbrev pub size_of : Meaning → Option ℕ
size_of (Symbol s) = Some s.entry.st_size
size_of (Common b) = Some b.size
size_of (Linker name bound) = None

abbrev pub type_of : Meaning → ℕ
type_of (Symbol s) = symbol_type s.entry
type_of (Common b) = STT_OBJECT
type_of (Linker name bound) = STT_OBJECT

abbrev pub binding_of : Meaning → Option ℕ
binding_of (Symbol s) = Some (binding s.entry)
binding_of (Common b) = None
binding_of (Linker name bound) = None

abbrev pub wanted_of : List LoadedObject → List Placed → Meaning → ℕ → Wanted
wanted_of objects placed m v = record {
  at = v;
  value = entry_value objects placed m v;
  size = size_of m;
  kind = type_of m;
  binding = binding_of m;
  anywhere = takes_no_memory placed m;
}

-- Entries that are such.

abbrev pub is_beyond : List SectionHeader → entry.Symbol → Bool
is_beyond hs e = e.st_shndx == shn_xindex && nat_le SHN_LORESERVE (length hs)

abbrev pub HasAddress : ℕ → SectionHeader → Type 0
HasAddress v h = (is_alloc h ≡ true) × (h.sh_addr ≤ v) × (v ≤ h.sh_addr + h.sh_size)

abbrev pub IsOfSectionIn : List SectionHeader → entry.Symbol → ℕ → Type 0
IsOfSectionIn hs e v =
    (e.st_shndx ≡ SHN_ABS) ⊎ (is_beyond hs e ≡ true) ⊎ IsSomeAnd (slice_get hs e.st_shndx) (HasAddress v)

abbrev pub IsOfSomeIn : List SectionHeader → entry.Symbol → Type 0
IsOfSomeIn hs e = (is_undefined e ≡ false) × (e.st_shndx < length hs)

pub record StandsIn (hs : List SectionHeader) (e : entry.Symbol) (at : ℕ) (anywhere : Bool) : Type 0 where
  pub stands : IsOfSectionIn hs e at ⊎ ((anywhere ≡ true) × IsOfSomeIn hs e)

pub record HasKind (e : entry.Symbol) (kind : ℕ) : Type 0 where
  pub kind_is : (symbol_type e ≡ kind) ⊎ (symbol_type e ≡ STT_NOTYPE)

abbrev pub IsBound : entry.Symbol → ℕ → Type 0
IsBound e b = (binding e ≡ b) ⊎ (binding e ≡ STB_LOCAL)

pub record HasBinding (e : entry.Symbol) (b : Option ℕ) : Type 0 where
  pub binding_is : IfSome b (IsBound e)

abbrev pub IsSized : entry.Symbol → ℕ → Type 0
IsSized e size = (e.st_size ≡ size) ⊎ (e.st_size ≡ 0)

pub record HasSize (e : entry.Symbol) (size : Option ℕ) : Type 0 where
  pub size_is : IfSome size (IsSized e)

pub record Fits (hs : List SectionHeader) (e : entry.Symbol) (w : Wanted) : Type 0 where
  pub value : e.st_value ≡ w.value
  pub size : HasSize e w.size
  pub kind : HasKind e w.kind
  pub binding_ : HasBinding e w.binding
  pub section : StandsIn hs e w.at w.anywhere
