-- Entries that name symbols which are not there, as a fault of the file.
use Rattle.std.proofs.Common.{◌≡◌, ◌⊎◌, inl, inr, ℕ, zero, suc, ◌<◌, ◌==◌, Bool, true, false, cond, List, [], ◌∷◌, Some, length, refl, ap, sym, subst, ◌∙◌, arith}
use Rattle.std.specs.Prelude.{unwrap_or}
use Rattle.std.specs.List.{Any, find}
use Rattle.std.proofs.lemmas.Bool.{cases_lt, eq-eqb, eqb-true, false≢true}
use Rattle.std.proofs.lemmas.List.Elements.{All-cons, All-head, All-nil, All-tail}
use Rattle.elf_model.specs.Inputs.ObjectFile.{AreGoodRelas, HasEntries, HasGoodSymbolTable, HasSymbols, IsPlaced, IsRelaSection, LinksToSymbols, StandsIn, null_section, rela_symbol, relas_of, section, symbol_table}
use Rattle.elf_model.specs.declared.faults.ObjFault.TheVariants as fault
use Rattle.elf_model.specs.declared.records.FileHeader.{FileHeader}
use Rattle.elf_model.specs.declared.records.Rela.{Rela}
use Rattle.elf_model.specs.declared.records.SectionHeader.{SectionHeader}
use Rattle.elf_model.specs.declared.records.Symbol.{Symbol}
use Rattle.elf_read.specs.Reading.{HasGoodSections, HaveGoodEntries}
use Rattle.elf_read.proofs.SectionLemmas.{placed_inside, reads_symbols}

-- entries are good or not
are_good_or_not : (n : ℕ) (rs : List Rela) → AreGoodRelas n rs ⊎ (¬ AreGoodRelas n rs)
are_good_or_not n [] = inl (All-nil (λ r. rela_symbol r < n))
are_good_or_not n (r ∷ rs) = elim (cases_lt (rela_symbol r) n) [
  | inl below ↦ elim (are_good_or_not n rs) [
    | inl good ↦ inl (All-cons (λ x. rela_symbol x < n) r rs below good)
    | inr bad ↦ inr (λ all. bad (All-tail (λ x. rela_symbol x < n) r rs all))
  ]
  | inr above ↦ inr (λ all. let below = All-head (λ x. rela_symbol x < n) r rs all in absurd (omega (arith, below, above)))
]

-- a RELA section with an entry that names no symbol
abbrev IsBad : ℕ → List ℕ → SectionHeader → Type 0
IsBad n bytes s = (s.sh_type ≡ 4) × (¬ AreGoodRelas n (relas_of bytes s))

-- the entries of a section are good, where it is a RELA section, or not
abbrev IsGood : ℕ → List ℕ → SectionHeader → Type 0
IsGood n bytes s = s.sh_type ≡ 4 → AreGoodRelas n (relas_of bytes s)

good_or_bad : (n : ℕ) (bytes : List ℕ) (s : SectionHeader) → IsGood n bytes s ⊎ IsBad n bytes s
good_or_bad n bytes s = by (s.sh_type == 4) refl
  where
    by : (b : Bool) → (s.sh_type == 4) ≡ b → IsGood n bytes s ⊎ IsBad n bytes s
    by true is = elim (are_good_or_not n (relas_of bytes s)) [
      | inl good ↦ inl (λ rela. good)
      | inr bad ↦ inr (eqb-true s.sh_type 4 is, bad)
    ]
    by false is = inl (λ rela. absurd (false≢true (sym is ∙ eq-eqb s.sh_type 4 rela)))

-- where not all entries of all sections are good, some section has a bad one
bad_part : (n : ℕ) (bytes : List ℕ) (ss : List SectionHeader) → ¬ HaveGoodEntries n bytes ss → Any (IsBad n bytes) ss
bad_part n bytes [] bad = absurd (bad (All-nil (IsGood n bytes)))
bad_part n bytes (s ∷ ss) bad = elim (good_or_bad n bytes s) [
  | inl good ↦
      let later = bad_part n bytes ss (λ rest. bad (All-cons (IsGood n bytes) s ss good rest)) in
      (suc later.0, later.1, omega (arith, later.2), later.3, later.4)
  | inr here ↦ (0, s, omega arith, refl, here)
]

-- where some section is a symbol table, one is found
table_kind : (ss : List SectionHeader) (k : ℕ) → (section ss k).sh_type ≡ 2 → (symbol_table ss).sh_type ≡ 2
table_kind [] k is = absurd (omega (arith, is))
table_kind (s ∷ ss) k is = by (s.sh_type == 2) refl k is (table_kind ss)
  where
    first : (b : Bool) → (s.sh_type == 2) ≡ b
        → symbol_table (s ∷ ss) ≡ unwrap_or (cond b (Some s) (find (λ (t : SectionHeader). t.sh_type == 2) ss)) null_section
    first b e = ap (λ b. unwrap_or (cond b (Some s) (find (λ (t : SectionHeader). t.sh_type == 2) ss)) null_section) e

    by :
        (b : Bool) → (s.sh_type == 2) ≡ b → (j : ℕ) → (section (s ∷ ss) j).sh_type ≡ 2 →
        ((i : ℕ) → (section ss i).sh_type ≡ 2 → (symbol_table ss).sh_type ≡ 2) →
        (symbol_table (s ∷ ss)).sh_type ≡ 2
    by true e j is rest = ap (λ (t : SectionHeader). t.sh_type) (first true e) ∙ eqb-true s.sh_type 2 e
    by false e zero is rest = absurd (false≢true (sym e ∙ eq-eqb s.sh_type 2 is))
    by false e (suc j) is rest = ap (λ (t : SectionHeader). t.sh_type) (first false e) ∙ rest j is

-- where there is no symbol table, nothing links to it
pub no_links : (ss : List SectionHeader) (s : SectionHeader) → HasGoodSymbolTable ss → symbol_table ss ≡ null_section → LinksToSymbols ss s → ⊥
no_links ss s good none links = elim links [
  | inl several ↦ absurd (omega (arith, several, good.one))
  | inr one ↦
      let found = table_kind ss s.sh_link one in
      let null = ap (λ (t : SectionHeader). t.sh_type) none in
      absurd (omega (arith, found, null))
]

-- where there is a good RELA section, symbols can be read
linked : (bytes : List ℕ) (h : FileHeader) (ss : List SectionHeader) (s : SectionHeader) → HasGoodSections bytes h ss → LinksToSymbols ss s → HasSymbols (length bytes) h ss
linked bytes h ss s judged links = elim (reads_symbols (length bytes) h ss judged.table.table judged.ranges judged.symbol_table) [
  | inl reads ↦ reads.symbols
  | inr none ↦ absurd (no_links ss s judged.symbol_table none links)
]

-- a bad entry among all is a fault of the file
pub bad_relas : (bytes : List ℕ) (h : FileHeader) (ss : List SectionHeader) (symbols : List Symbol) → HasGoodSections bytes h ss
    → ¬ HaveGoodEntries (length symbols) bytes ss → StandsIn bytes h ss symbols fault.BadRela
bad_relas bytes h ss symbols judged bad =
    let found = bad_part (length symbols) bytes ss bad in
    let k = found.0 in
    let s = found.1 in
    let within = found.2 in
    let is = found.3 in
    let rela = found.4.0 in
    let own = subst (λ (t : SectionHeader). t.sh_type ≡ 4 → IsRelaSection ss t) is (judged.relas.relas k s within) rela in
    let placed = subst (IsPlaced (length bytes)) is (judged.ranges k s within) in
    let entries : HasEntries (length bytes) s = record {
      rela = rela;
      whole = own.whole;
      inside = placed_inside (length bytes) 4 s rela (omega arith) (omega arith) placed;
    } in
    inr (linked bytes h ss s judged own.symbols, (k, s, within, is, (entries, found.4.1)))
