-- Faults of a file from faults of what was read of it.
use Rattle.std.proofs.Common.{◌≡◌, inl, inr, ℕ, ◌/◌, ◌∙◌, sym, List, [], length, Result, Ok, Err, refl, ap, subst, arith}
use Rattle.std.specs.Prelude.{IfErr}
use Rattle.std.specs.List.{Any}
use Rattle.std.proofs.lemmas.List.Elements.{All-nil}
use Rattle.byteview.specs.Numbers.{HasText}
use Rattle.elf_model.specs.Inputs.ObjectFile.{AreGoodRelas, AreGoodSymbols, AreSectionsNamed, AreSymbolsNamed, HasEntries, IsGoodSymbol, IsObject, ObjFaultStands, StandsIn, contents, entries, null_section, relas_of, section, sections, sections_of, symbol_table, symbols, symbols_of}
use Rattle.elf_model.specs.Inputs.Records.{file_header, symbol}
use Rattle.elf_model.specs.declared.faults.ObjFault.{ObjFault}
use Rattle.elf_model.specs.declared.faults.ObjFault.TheVariants as fault
use Rattle.elf_model.specs.declared.records.FileHeader.{FileHeader}
use Rattle.elf_model.specs.declared.records.SectionHeader.{SectionHeader}
use Rattle.elf_model.specs.declared.records.Symbol.{Symbol}
use Rattle.elf_read.specs.Reading.{HasGoodSections}
use Rattle.elf_read.proofs.SectionLemmas.{reads_symbols, strings_inside}

-- without a symbol table there are no symbols, and none of them is bad
no_symbols : (bytes : List ℕ) (ss : List SectionHeader) → symbol_table ss ≡ null_section → symbols_of bytes ss ≡ []
no_symbols bytes ss none = ap (λ (t : SectionHeader). entries symbol 24 bytes t.sh_offset (t.sh_size / 24)) none

none_good : (n : ℕ) → AreGoodSymbols n []
none_good n = record { null = refl; each = All-nil (IsGoodSymbol n) }

pub bad_symbols : (bytes : List ℕ) (h : FileHeader) (ss : List SectionHeader) (symbols : List Symbol) → HasGoodSections bytes h ss → symbols ≡ symbols_of bytes ss
    → ¬ AreGoodSymbols h.e_shnum symbols → StandsIn bytes h ss symbols fault.BadSymbolTable
bad_symbols bytes h ss symbols judged are bad =
    elim (reads_symbols (length bytes) h ss judged.table.table judged.ranges judged.symbol_table) [
      | inl reads ↦ inr (reads.symbols, bad)
      | inr none ↦ absurd (bad (subst (AreGoodSymbols h.e_shnum) (sym (are ∙ no_symbols bytes ss none)) (none_good h.e_shnum)))
    ]

pub unnamed_sections : (bytes : List ℕ) (h : FileHeader) (ss : List SectionHeader) (symbols : List Symbol) → HasGoodSections bytes h ss
    → ¬ AreSectionsNamed (contents bytes (section ss h.e_shstrndx)) ss → StandsIn bytes h ss symbols fault.BadString
unnamed_sections bytes h ss symbols judged bad =
    inl (
      record {
        table = judged.table.table;
        strings = judged.table.strings;
        inside = strings_inside (length bytes) ss h.e_shstrndx judged.ranges judged.table.strings;
      },
      bad,
    )

pub unnamed_symbols : (bytes : List ℕ) (h : FileHeader) (ss : List SectionHeader) (symbols : List Symbol) → HasGoodSections bytes h ss → symbols ≡ symbols_of bytes ss
    → ¬ AreSymbolsNamed (contents bytes (section ss (symbol_table ss).sh_link)) symbols → StandsIn bytes h ss symbols fault.BadString
unnamed_symbols bytes h ss symbols judged are bad =
    let strings = contents bytes (section ss (symbol_table ss).sh_link) in
    elim (reads_symbols (length bytes) h ss judged.table.table judged.ranges judged.symbol_table) [
      | inl reads ↦ inr (reads, bad)
      | inr none ↦ absurd (bad (subst (AreSymbolsNamed strings) (sym (are ∙ no_symbols bytes ss none)) (All-nil (λ s. HasText strings s.st_name))))
    ]

-- a fault of what was read of a file is one of the file
pub of_file : (bytes : List ℕ) (h : FileHeader) (ss : List SectionHeader) (f : ObjFault) → h ≡ file_header bytes → ss ≡ sections_of bytes h
    → StandsIn bytes h ss (symbols_of bytes ss) f → ObjFaultStands bytes f
of_file bytes h ss f header_is sections_are stands =
    let here : StandsIn bytes h (sections_of bytes h) (symbols_of bytes (sections_of bytes h)) f =
    subst (λ (ts : List SectionHeader). StandsIn bytes h ts (symbols_of bytes ts) f) sections_are stands
    in
    subst (λ (k : FileHeader). StandsIn bytes k (sections_of bytes k) (symbols_of bytes (sections_of bytes k)) f) header_is here

-- of an object no entry names a symbol that is not there
no_bad_entry : (bytes : List ℕ) → IsObject bytes
    → Any (λ s. HasEntries (length bytes) s × (¬ AreGoodRelas (length (symbols bytes)) (relas_of bytes s))) (sections bytes) → ⊥
no_bad_entry bytes o any =
    let good = subst (λ (t : SectionHeader). t.sh_type ≡ 4 → AreGoodRelas (length (symbols bytes)) (relas_of bytes t)) any.3
    (o.relas.entries any.0 any.1 any.2)
    in
    any.4.1 (good any.4.0.rela)

-- of an object no fault but want of memory stands
pub only : (bytes : List ℕ) (f : ObjFault) → IsObject bytes → ObjFaultStands bytes f → f ≡ fault.Memory
only bytes fault.Memory o s = refl
only bytes fault.Truncated o s = absurd (omega (arith, o.long))
only bytes fault.NotElf64 o s = absurd (s.1 o.elf64)
only bytes fault.NotRelocatable o s = absurd (s.1 o.relocatable)
only bytes fault.WrongMachine o s = absurd (s.1 o.machine)
only bytes fault.BadSectionTable o s = absurd (s.1 o.table)
only bytes fault.BadSectionRange o s = absurd (s.1 o.ranges)
only bytes fault.BadString o s = elim s [ inl bad ↦ absurd (bad.1 o.strings.sections) | inr bad ↦ absurd (bad.1 o.strings.symbols) ]
only bytes fault.BadSymbolTable o s = elim s [ inl bad ↦ absurd (bad.1 o.symbols.table) | inr bad ↦ absurd (bad.1 o.symbols.symbols) ]
only bytes fault.BadRela o s = elim s [ inl bad ↦ absurd (bad.1 o.relas.tables) | inr bad ↦ absurd (no_bad_entry bytes o bad.1) ]
only bytes fault.BadGroup o s = elim s [
  | inl bad ↦ absurd (bad.1 o.groups.tables)
  | inr other ↦ elim other [
    | inl bad ↦ absurd (bad.1 o.groups.signatures)
    | inr bad ↦ absurd (bad.1 (λ k d within readable. o.groups.members k d within readable.group))
  ]
]
only bytes fault.TooMany o s = absurd (omega (arith, o.size))

pub only_memory : {X : Type 0} (bytes : List ℕ) (r : Result X ObjFault) → IfErr r (ObjFaultStands bytes) → IsObject bytes → IfErr r (λ f. f ≡ fault.Memory)
only_memory bytes (Ok x) stands o = stands
only_memory bytes (Err f) stands o = only bytes f o stands

-- what `?` returns of a fault that stands
pub passed : {X : Type 0} (bytes : List ℕ) (r : Result X ObjFault) (f : ObjFault) → (y : ObjFault) × (r ≡ Err y) × (y ≡ f) → ObjFaultStands bytes f
    → IfErr r (ObjFaultStands bytes)
passed {X} bytes r f out stands = subst (λ (q : Result X ObjFault). IfErr q (ObjFaultStands bytes)) (sym (out.1 ∙ ap Err out.2)) stands
