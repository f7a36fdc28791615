-- The object that was read, from what was read of it.
use Rattle.std.proofs.Common.{◌≡◌, ℕ, ◌<◌, ◌≤◌, ◌/◌, ◌^◌, List, Result, Ok, Err, length, ap, subst, ◌∙◌}
use Rattle.std.specs.Prelude.{IfErr, IfOk, OnOk}
use Rattle.std.specs.List.{All}
use Rattle.elf_model.specs.Inputs.ObjectFile.{AreMembers, HasTable, HaveSignatures, IsElf64, IsObject, ObjFaultStands, StandsIn, contents, entries, group_members as members_of, groups, groups_of, section, section_strings, sections, sections_of, symbol_strings, symbol_table as table_of, symbols, symbols_of}
use Rattle.elf_model.specs.Inputs.Records.{file_header, symbol}
use Rattle.elf_model.specs.declared.faults.ObjFault.{ObjFault}
use Rattle.elf_model.specs.declared.records.FileHeader.{FileHeader}
use Rattle.elf_model.specs.declared.records.SectionHeader.{SectionHeader}
use Rattle.elf_model.specs.declared.records.Symbol.{Symbol}
use Rattle.elf_read.specs.Reading.{HasGoodEntries, HasGoodHeader, HasGoodSections, names_of}
use Rattle.elf_read.proofs.Faults.{of_file}

-- all that was found good, of what was read
pub record IsFound (bytes : List ℕ) (h : FileHeader) (ss : List SectionHeader) (syms : List Symbol) : Type 0 where
  pub header : HasGoodHeader bytes h
  pub sections : HasGoodSections bytes h ss
  pub entries : HasGoodEntries bytes h ss syms
  pub signatures : HaveSignatures (length syms) ss
  pub members : All (λ s. s.sh_type ≡ 17 → AreMembers ss (members_of bytes s)) ss

own : (bytes : List ℕ)
    → IsFound bytes (file_header bytes) (sections_of bytes (file_header bytes)) (symbols_of bytes (sections_of bytes (file_header bytes)))
    → IsObject bytes
own bytes found = record {
  long = found.header.long;
  elf64 = found.header.elf64;
  relocatable = found.header.relocatable;
  machine = found.header.machine;
  table = found.sections.table;
  ranges = found.sections.ranges;
  strings = record { sections = found.entries.section_names; symbols = found.entries.symbol_names };
  symbols = record { table = found.sections.symbol_table; symbols = found.entries.symbols };
  relas = record { tables = found.sections.relas; entries = found.entries.relas };
  groups = record { tables = found.sections.groups; signatures = found.signatures; members = found.members };
  size = found.header.size;
}

pub object : (bytes : List ℕ) (h : FileHeader) (ss : List SectionHeader) (symbols : List Symbol) → IsFound bytes h ss symbols → IsObject bytes
object bytes h ss symbols found =
    let by_symbols : IsFound bytes h ss (symbols_of bytes ss) = subst (IsFound bytes h ss) found.entries.symbols_are found in
    let by_sections : IsFound bytes h (sections_of bytes h) (symbols_of bytes (sections_of bytes h)) =
    subst (λ (ts : List SectionHeader). IsFound bytes h ts (symbols_of bytes ts)) found.sections.sections_are by_symbols
    in
    own bytes (subst (λ (k : FileHeader). IsFound bytes k (sections_of bytes k) (symbols_of bytes (sections_of bytes k))) found.header.header_is by_sections)

-- the symbols that were read, where the symbol table was found
pub symbols_by_table : (bytes : List ℕ) (ss : List SectionHeader) (table : SectionHeader) (symbols : List Symbol) → table ≡ table_of ss
    → symbols ≡ entries symbol 24 bytes table.sh_offset (table.sh_size / 24) → symbols ≡ symbols_of bytes ss
symbols_by_table bytes ss table symbols e are = are ∙ ap (λ (t : SectionHeader). entries symbol 24 bytes t.sh_offset (t.sh_size / 24)) e

-- a header of which each part was found good
pub header_found : (bytes : List ℕ) (r : Result FileHeader ObjFault) → IfOk r (λ h. h ≡ file_header bytes) → IfOk r (λ h. 64 ≤ length bytes) → IfOk r IsElf64
    → IfOk r (λ h. h.e_type ≡ 1) → IfOk r (λ h. h.e_machine ≡ 62) → IfOk r (λ h. h.e_ehsize ≡ 64) → IfOk r (HasTable (length bytes))
    → IfOk r (λ h. length bytes < 2 ^ 32) → IfOk r (HasGoodHeader bytes)
header_found bytes (Ok h) is long elf64 relocatable machine ehsize table size = record {
  header_is = is;
  long = long;
  elf64 = elf64;
  relocatable = relocatable;
  machine = machine;
  ehsize = ehsize;
  table = table;
  size = size;
}
header_found bytes (Err f) is long elf64 relocatable machine ehsize table size = is

-- where groups were judged, the bytes are an object, or have a fault
pub groups_found : {V : Type 0} (bytes : List ℕ) (h : FileHeader) (ss : List SectionHeader) (syms : List Symbol) (r : Result V ObjFault)
    → HasGoodHeader bytes h → HasGoodSections bytes h ss → HasGoodEntries bytes h ss syms → OnOk r (HaveSignatures (length syms) ss)
    → OnOk r (All (λ s. s.sh_type ≡ 17 → AreMembers ss (members_of bytes s)) ss) → OnOk r (IsObject bytes)
groups_found {V} bytes h ss syms (Ok v) header sections entries signatures members =
    object bytes h ss syms record { header = header; sections = sections; entries = entries; signatures = signatures; members = members }
groups_found {V} bytes h ss syms (Err f) header sections entries signatures members = signatures

pub groups_fault : {V : Type 0} (bytes : List ℕ) (h : FileHeader) (ss : List SectionHeader) (syms : List Symbol) (r : Result V ObjFault)
    → HasGoodHeader bytes h → HasGoodSections bytes h ss → HasGoodEntries bytes h ss syms
    → IfErr r (λ f. (k : FileHeader) → HasTable (length bytes) k → StandsIn bytes k ss syms f) → IfErr r (ObjFaultStands bytes)
groups_fault {V} bytes h ss syms (Ok v) header sections entries stands = stands
groups_fault {V} bytes h ss syms (Err f) header sections entries stands =
    of_file bytes h ss f header.header_is sections.sections_are
    (subst (λ (xs : List Symbol). StandsIn bytes h ss xs f) entries.symbols_are (stands h header.table))

-- what was read of a file with good parts is what the file has
pub file_sections : (bytes : List ℕ) (h : FileHeader) (ss : List SectionHeader) → HasGoodHeader bytes h → HasGoodSections bytes h ss → ss ≡ sections bytes
file_sections bytes h ss header good = good.sections_are ∙ ap (sections_of bytes) header.header_is

pub file_symbols : (bytes : List ℕ) (h : FileHeader) (ss : List SectionHeader) (syms : List Symbol)
    → HasGoodHeader bytes h → HasGoodSections bytes h ss → HasGoodEntries bytes h ss syms → syms ≡ symbols bytes
file_symbols bytes h ss syms header good entries = entries.symbols_are ∙ ap (symbols_of bytes) (file_sections bytes h ss header good)

pub file_section_strings : (bytes : List ℕ) (h : FileHeader) (ss : List SectionHeader) (strings : List ℕ)
    → HasGoodHeader bytes h → HasGoodSections bytes h ss → strings ≡ contents bytes (section ss h.e_shstrndx) → strings ≡ section_strings bytes
file_section_strings bytes h ss strings header good is =
    is ∙ (λ i. contents bytes (section (file_sections bytes h ss header good i) (header.header_is i).e_shstrndx))

pub file_symbol_strings : (bytes : List ℕ) (h : FileHeader) (ss : List SectionHeader) (strings : List ℕ)
    → HasGoodHeader bytes h → HasGoodSections bytes h ss → strings ≡ contents bytes (section ss (table_of ss).sh_link) → strings ≡ symbol_strings bytes
file_symbol_strings bytes h ss strings header good is =
    let sections_are = file_sections bytes h ss header good in
    is ∙ (λ i. contents bytes (section (sections_are i) (table_of (sections_are i)).sh_link))

pub groups_are : (bytes : List ℕ) (h : FileHeader) (ss : List SectionHeader) (syms : List Symbol) (strings : List ℕ)
    → HasGoodHeader bytes h → HasGoodSections bytes h ss → HasGoodEntries bytes h ss syms → strings ≡ contents bytes (section ss (table_of ss).sh_link)
    → groups_of bytes ss (names_of strings syms) ≡ groups bytes
groups_are bytes h ss syms strings header good entries is =
    let sections_are = file_sections bytes h ss header good in
    let symbols_are = file_symbols bytes h ss syms header good entries in
    let strings_are = file_symbol_strings bytes h ss strings header good is in
    λ i. groups_of bytes (sections_are i) (names_of (strings_are i) (symbols_are i))
