-- Whether an entry of a symbol table is right, by what is known of its name.
use Rattle.std.specs.Prelude.{◌≡◌, ◌⊎◌, ◌≤◌, ℕ, Any, Bool, false, true, List, IsSomeAnd, is_some}
use Rattle.std.specs.List.{position, slice_get}
use Rattle.std.specs.Str.{bytes_eq}
use Rattle.byteview.specs.Numbers.{text}
use Rattle.elf_model.specs.Link.Resolution.{binding, is_undefined, is_weak, symbol_type}
use Rattle.elf_model.specs.declared.constants.TheConstants.{STB_LOCAL, STT_OBJECT, STT_SECTION}
use Rattle.elf_model.specs.declared.records.SectionHeader.{SectionHeader}
use Rattle.elf_model.specs.declared.records.Symbol.{Symbol}
use Rattle.judge_model.specs.Tables.{IsFile, is_made_name}
use Rattle.link_fields.specs.Parts.{Parts, object_or_linker}
use Rattle.symbol_judge.specs.Indexes.{wanted_by}
use Rattle.symbol_judge.specs.Locals.{IsLocalBy}
use Rattle.symbol_judge.specs.Wanted.{Fits}
use Rattle.symbol_judge.specs.declared.entries.Named.{Named}
use Rattle.symbol_judge.specs.declared.locals.Local.{Local}

-- what is known of the name at an offset of a string table
abbrev pub named_by : Parts → List ℕ → List (List ℕ) → ℕ → Named
named_by p strings names offset = record {
  offset = offset;
  number = position (bytes_eq (text strings offset)) names;
  defined = is_some (object_or_linker p.objects p.pieces (text strings offset));
  wanted = wanted_by p (text strings offset);
  made = is_made_name (text strings offset);
}

-- an entry of what nothing defines, and one of a section
pub record IsMissingBy (defined : Bool) (e : Symbol) : Type 0 where
  pub undefined : is_undefined e ≡ true
  pub value : e.st_value ≡ 0
  pub weak : (is_weak e ≡ true) ⊎ (binding e ≡ STB_LOCAL)
  pub none : defined ≡ false

-- an entry of a name that the linker made of itself
pub record IsMadeBy (named : Named) (e : Symbol) : Type 0 where
  pub known : named.made ≡ true
  pub none : named.defined ≡ false
  pub binding_ : binding e ≡ STB_LOCAL
  pub type_ : symbol_type e ≤ STT_OBJECT
  pub size : e.st_size ≡ 0

abbrev pub BeginsAt : ℕ → SectionHeader → Type 0
BeginsAt v h = v ≡ h.sh_addr

pub record IsSectionBy (hs : List SectionHeader) (e : Symbol) : Type 0 where
  pub type_ : symbol_type e ≡ STT_SECTION
  pub binding_ : binding e ≡ STB_LOCAL
  pub value : IsSomeAnd (slice_get hs e.st_shndx) (BeginsAt e.st_value)

-- an entry of a LOCAL symbol
pub record IsLocalEntryBy (hs : List SectionHeader) (table : List Local) (named : Named) (e : Symbol) : Type 0 where
  pub binding_ : binding e ≡ STB_LOCAL
  pub symbol : IsSomeAnd named.number (λ k. Any (IsLocalBy hs k e) table)

abbrev pub IsRightBy : List SectionHeader → List Local → Named → Symbol → Type 0
IsRightBy hs table named e =
    IsSomeAnd named.wanted (Fits hs e)
    ⊎ IsLocalEntryBy hs table named e
    ⊎ IsMissingBy named.defined e
    ⊎ IsMadeBy named e
    ⊎ IsFile e
    ⊎ IsSectionBy hs e

-- by its own name
pub record IsRightNamed (p : Parts) (hs : List SectionHeader) (strings : List ℕ) (names : List (List ℕ)) (table : List Local) (e : Symbol) : Type 0 where
  pub right : IsRightBy hs table (named_by p strings names e.st_name) e
