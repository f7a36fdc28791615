-- What a part of a file says of it: where it is, and the fact that an object has no such part.
use Rattle.std.specs.Prelude.{◌≡◌, ℕ, ◌+◌, ◌*◌, ◌^◌, ◌<◌, List, Option, Some, SomeIff, length, option_copied}
use Rattle.std.specs.List.{slice_get}
use Rattle.std.specs.Option.{ForSome}
use Rattle.byteview.specs.Numbers.{HasText}
use Rattle.elf_model.specs.Inputs.ObjectFile.{HasEntries, HasMembers, HasSectionStrings, HasSymbolStrings, HasSymbols, HasTable, IsGoodSymbol, IsGroupSection, IsPlaced, IsRelaSection, IsSymbolTable, MayBeMember, group_members, name_of_section, name_of_symbol, null_symbol, rela_symbol, relas_of, section_strings, sections, symbol_strings, symbol_table, symbols}
use Rattle.elf_model.specs.Inputs.Records.{file_header}
use Rattle.elf_model.specs.declared.constants.TheConstants.{SHT_GROUP, SHT_REL, SHT_RELA, SHT_SYMTAB, SHT_SYMTAB_SHNDX}
use Rattle.elf_model.specs.declared.records.FileHeader.{FileHeader}
use Rattle.elf_model.specs.declared.records.Rela.{Rela}
use Rattle.elf_model.specs.declared.records.SectionHeader.{SectionHeader}
use Rattle.elf_model.specs.declared.records.Symbol.{Symbol}
use Rattle.elf_model.specs.declared.faults.ObjFault.{ObjFault}
use Rattle.elf_model.specs.declared.faults.ObjFault.TheVariants as fault
use Rattle.bad_parts.specs.declared.part.BadPart.{BadPart}
use Rattle.bad_parts.specs.declared.part.BadPart.TheVariants as part
use Rattle.bad_parts.specs.declared.part.Held.{Held}
use Rattle.bad_parts.specs.declared.part.Part.{Part}

-- what can be read of a file, by its own headers: its symbols, the names of its sections or those of its symbols
abbrev pub Has : (ℕ → FileHeader → List SectionHeader → Type 0) → List ℕ → Type 0
Has Read bytes = Read (length bytes) (file_header bytes) (sections bytes)

-- a section of a table that can be read, its header's offset in the file, and its name exactly where that can be read
pub record IsSectionPart (bytes : List ℕ) (p : Part SectionHeader) : Type 0 where
  pub table : HasTable (length bytes) (file_header bytes)
  pub there : slice_get (sections bytes) p.number ≡ Some p.entry
  pub at : p.at ≡ (file_header bytes).e_shoff + 64 * p.number
  pub name : SomeIff (option_copied p.name) (HasText (section_strings bytes) p.entry.sh_name) (name_of_section bytes p.entry)

-- a symbol of a table that can be read, its entry's offset in the file, and its name exactly where that can be read
pub record IsSymbolPart (bytes : List ℕ) (p : Part Symbol) : Type 0 where
  pub readable : Has HasSymbols bytes
  pub there : slice_get (symbols bytes) p.number ≡ Some p.entry
  pub at : p.at ≡ (symbol_table (sections bytes)).sh_offset + 24 * p.number
  pub name : SomeIff (option_copied p.name) (HasText (symbol_strings bytes) p.entry.st_name) (name_of_symbol bytes p.entry)

-- an entry of a RELA section that can be read, and its offset in the file
pub record IsEntryPart (bytes : List ℕ) (p : Held Rela) : Type 0 where
  pub section : IsSectionPart bytes p.section
  pub entries : HasEntries (length bytes) p.section.entry
  pub there : slice_get (relas_of bytes p.section.entry) p.number ≡ Some p.entry
  pub at : p.at ≡ p.section.entry.sh_offset + 24 * p.number

-- a member of a group that can be read, and the offset in the file of its word, which stands after the group's flags
pub record IsMemberPart (bytes : List ℕ) (p : Held ℕ) : Type 0 where
  pub section : IsSectionPart bytes p.section
  pub members : HasMembers (length bytes) p.section.entry
  pub there : slice_get (group_members bytes p.section.entry) p.number ≡ Some p.entry
  pub at : p.at ≡ p.section.entry.sh_offset + 4 + 4 * p.number

-- a section of a type
pub record IsOfType (bytes : List ℕ) (kind : ℕ) (p : Part SectionHeader) : Type 0 where
  pub section : IsSectionPart bytes p
  pub type_is : p.entry.sh_type ≡ kind

-- a symbol table, and another one after it
pub record AreTwoTables (bytes : List ℕ) (p q : Part SectionHeader) : Type 0 where
  pub first : IsOfType bytes SHT_SYMTAB p
  pub second : IsOfType bytes SHT_SYMTAB q
  pub after : p.number < q.number

-- a part is bad, and of a fault: an object has no such part; what is judged of it can be read
abbrev pub IsBadOf : List ℕ → ObjFault → BadPart → Type 0
IsBadOf bytes f (part.Range p) = (f ≡ fault.BadSectionRange) × IsSectionPart bytes p × (¬ IsPlaced (length bytes) p.entry)
IsBadOf bytes f (part.SectionName p) = (f ≡ fault.BadString) × IsSectionPart bytes p × Has HasSectionStrings bytes × (¬ HasText (section_strings bytes) p.entry.sh_name)
IsBadOf bytes f (part.SymbolName p) = (f ≡ fault.BadString) × IsSymbolPart bytes p × Has HasSymbolStrings bytes × (¬ HasText (symbol_strings bytes) p.entry.st_name)
IsBadOf bytes f (part.SecondTable p q) = (f ≡ fault.BadSymbolTable) × AreTwoTables bytes p q
IsBadOf bytes f (part.Extension p) = (f ≡ fault.BadSymbolTable) × IsOfType bytes SHT_SYMTAB_SHNDX p
IsBadOf bytes f (part.SymbolTable p) = (f ≡ fault.BadSymbolTable) × IsOfType bytes SHT_SYMTAB p × (¬ IsSymbolTable (sections bytes) p.entry)
IsBadOf bytes f (part.NullSymbol p) = (f ≡ fault.BadSymbolTable) × IsSymbolPart bytes p × (p.number ≡ 0) × (¬ (p.entry ≡ null_symbol))
IsBadOf bytes f (part.Symbol p) = (f ≡ fault.BadSymbolTable) × IsSymbolPart bytes p × (¬ IsGoodSymbol (file_header bytes).e_shnum p.entry)
IsBadOf bytes f (part.Rel p) = (f ≡ fault.BadRela) × IsOfType bytes SHT_REL p
IsBadOf bytes f (part.Relas p) = (f ≡ fault.BadRela) × IsOfType bytes SHT_RELA p × (¬ IsRelaSection (sections bytes) p.entry)
IsBadOf bytes f (part.Entry p) = (f ≡ fault.BadRela) × IsEntryPart bytes p × Has HasSymbols bytes × (¬ (rela_symbol p.entry < length (symbols bytes)))
IsBadOf bytes f (part.Group p) = (f ≡ fault.BadGroup) × IsOfType bytes SHT_GROUP p × (¬ IsGroupSection (sections bytes) p.entry)
IsBadOf bytes f (part.Signature p) = (f ≡ fault.BadGroup) × IsOfType bytes SHT_GROUP p × Has HasSymbols bytes × (¬ (p.entry.sh_info < length (symbols bytes)))
IsBadOf bytes f (part.Member p) = (f ≡ fault.BadGroup) × IsMemberPart bytes p × (¬ MayBeMember (sections bytes) p.entry)

-- what is kept of a file that may be no object: its header, its section header table, and its symbols where they can be read
pub record AreTables (bytes : List ℕ) (h : FileHeader) (ss : List SectionHeader) (read : Option (List Symbol)) : Type 0 where
  pub header : h ≡ file_header bytes
  pub sections_are : ss ≡ sections bytes
  pub table : HasTable (length bytes) (file_header bytes)
  pub small : length bytes < 2 ^ 32
  pub symbols_are : ForSome read (λ run. Has HasSymbols bytes × (run ≡ symbols bytes))
