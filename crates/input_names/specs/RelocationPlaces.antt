-- What a place of a relocation says of the loaded objects, and when the field of one begins inside that of another.
use Rattle.std.specs.Prelude.{◌≡◌, ◌+◌, ◌<◌, ◌≤◌, ℕ, true, List, [], Some, unwrap_or}
use Rattle.std.specs.List.{slice_get}
use Rattle.elf_model.specs.Link.Loading.{LoadedObject}
use Rattle.elf_model.specs.Inputs.ObjectFile.{rela_symbol, relas_of, section_name, sections, symbol_name}
use Rattle.elf_model.specs.Link.Relocation.{AreFieldsApart, Relocation, is_kept_rela, is_some_kind, relocation_of}
use Rattle.elf_model.specs.declared.records.Rela.{Rela}
use Rattle.elf_model.specs.declared.records.SectionHeader.{SectionHeader}
use Rattle.input_names.specs.declared.relocation_places.RelocationPlace.{RelocationPlace}

-- a place has the numbers of an entry of an object, and tells of what it relocates
pub record HasNumbers (p : RelocationPlace) (bytes : List ℕ) (h : SectionHeader) (n i e : ℕ) (x : Rela) : Type 0 where
  pub object : p.object ≡ n
  pub table : p.table ≡ i
  pub number : p.number ≡ e
  pub entry : p.entry ≡ x
  pub section : p.section ≡ h.sh_info
  pub section_name : p.section_name.now ≡ unwrap_or (section_name bytes h.sh_info) []
  pub symbol_name : p.symbol_name.now ≡ unwrap_or (symbol_name bytes (rela_symbol x)) []

-- a place is that of a kept relocation, an entry of a RELA section, which has the header
pub record IsEntryAt (objects : List LoadedObject) (p : RelocationPlace) (o : LoadedObject) (h : SectionHeader) : Type 0 where
  pub object : slice_get objects p.object ≡ Some o
  pub table : slice_get (sections o.bytes) p.table ≡ Some h
  pub kept : is_kept_rela o p.table h ≡ true
  pub entry : slice_get (relas_of o.bytes h) p.number ≡ Some p.entry
  pub some_kind : is_some_kind p.entry ≡ true

-- what a place tells of a relocation
pub record IsTold (p : RelocationPlace) (r : Relocation) : Type 0 where
  pub section : p.section ≡ r.section
  pub section_name : p.section_name.now ≡ r.name
  pub symbol_name : p.symbol_name.now ≡ r.symbol.name

-- a place is that of a kept relocation
pub record IsRelocationAt (objects : List LoadedObject) (p : RelocationPlace) (r : Relocation) : Type 0 where
  pub o : LoadedObject
  pub h : SectionHeader
  pub at : IsEntryAt objects p o h
  pub relocation : r ≡ relocation_of p.object o h.sh_info p.entry
  pub told : IsTold p r

-- it is one of the object that has a number
abbrev pub IsKeptOf : List LoadedObject → ℕ → LoadedObject → RelocationPlace → Type 0
IsKeptOf objects n o p = IsRelocationAt objects p (relocation_of n o p.section p.entry)

-- two places of one object are not those of one entry
abbrev pub AreTwo : RelocationPlace → RelocationPlace → Type 0
AreTwo p q = ¬ ((p.table ≡ q.table) × (p.number ≡ q.number))

-- the field of the second one begins inside that of the first one, which is another one; both have their widths
pub record BeginsIn (p : RelocationPlace) (width : ℕ) (q : RelocationPlace) (second_width : ℕ) : Type 0 where
  pub two : AreTwo p q
  pub object : p.object ≡ q.object
  pub section : p.section ≡ q.section
  pub some : 0 < second_width
  pub from : p.entry.r_offset ≤ q.entry.r_offset
  pub to : q.entry.r_offset < p.entry.r_offset + width

-- two places are those of two kept relocations whose fields share a byte
pub record IsOverlap (objects : List LoadedObject) (p q : RelocationPlace) : Type 0 where
  pub two : AreTwo p q
  pub r : Relocation
  pub t : Relocation
  pub first : IsRelocationAt objects p r
  pub second : IsRelocationAt objects q t
  pub wrong : ¬ AreFieldsApart r t
