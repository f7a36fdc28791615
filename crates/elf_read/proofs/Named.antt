-- The names of sections and symbols that are looked up by number.
use Rattle.std.proofs.Common.{◌≡◌, ℕ, List, Option, Some, SomeIff, ap, subst, sym, ◌∙◌}
use Rattle.std.specs.List.{slice_get}
use Rattle.byteview.specs.Numbers.{HasText, text}
use Rattle.elf_model.specs.Inputs.ObjectFile.{IsObject, section_name, section_strings, sections, symbol_name, symbol_strings, symbols}
use Rattle.elf_model.specs.declared.records.SectionHeader.{SectionHeader}
use Rattle.elf_model.specs.declared.records.Symbol.{Symbol}
use Rattle.elf_read.proofs.Lookups.{text_told}

pub symbol_told : (bytes strings : List ℕ) (kept : List Symbol) (j : ℕ) (s : Symbol) (o : Option (List ℕ)) → IsObject bytes
    → strings ≡ symbol_strings bytes → kept ≡ symbols bytes → slice_get kept j ≡ Some s
    → SomeIff o (HasText strings s.st_name) (text strings s.st_name) → o ≡ symbol_name bytes j
symbol_told bytes strings kept j s o object strings_are kept_are there told =
    let all = object.strings.symbols in
    text_told (symbol_strings bytes) (λ (x : Symbol). x.st_name) (symbols bytes) j s o all (ap (λ (ss : List Symbol). slice_get ss j) (sym kept_are) ∙ there)
    (subst (λ (t : List ℕ). SomeIff o (HasText t s.st_name) (text t s.st_name)) strings_are told)

pub section_told : (bytes strings : List ℕ) (kept : List SectionHeader) (i : ℕ) (s : SectionHeader) (o : Option (List ℕ)) → IsObject bytes
    → strings ≡ section_strings bytes → kept ≡ sections bytes → slice_get kept i ≡ Some s
    → SomeIff o (HasText strings s.sh_name) (text strings s.sh_name) → o ≡ section_name bytes i
section_told bytes strings kept i s o object strings_are kept_are there told =
    let all = object.strings.sections in
    text_told (section_strings bytes) (λ (x : SectionHeader). x.sh_name) (sections bytes) i s o all
    (ap (λ (ss : List SectionHeader). slice_get ss i) (sym kept_are) ∙ there)
    (subst (λ (t : List ℕ). SomeIff o (HasText t s.sh_name) (text t s.sh_name)) strings_are told)
