-- What placed sections say of the tables among them.
use Rattle.std.proofs.Common.{◌≡◌, ◌⊎◌, inl, inr, ℕ, ◌+◌, ◌<◌, ◌≤◌, ◌==◌, Bool, true, false, cond, List, [], ◌∷◌, Option, None, Some, length, refl, ap, sym, subst, ◌∙◌, arith}
use Rattle.std.specs.Prelude.{count_by, unwrap_or}
use Rattle.std.specs.List.{All, find}
use Rattle.std.proofs.lemmas.Bool.{cases_lt, eqb-true}
use Rattle.std.proofs.lemmas.List.{get_or_past}
use Rattle.std.proofs.lemmas.List.Elements.{All-head, All-tail}
use Rattle.std.proofs.lemmas.List.Sums.{sum_by-cons}
use Rattle.elf_model.specs.Inputs.ObjectFile.{HasGoodSymbolTable, HasSymbolStrings, HasTable, IsPlaced, IsStringTable, IsSymbolTable, LiesInside, null_section, section, symbol_table}
use Rattle.elf_model.specs.declared.records.FileHeader.{FileHeader}
use Rattle.elf_model.specs.declared.records.SectionHeader.{SectionHeader}

abbrev is_symbol_table : SectionHeader → Bool
is_symbol_table s = s.sh_type == 2

-- a placed section of a type with bytes lies inside
pub placed_inside : (len t : ℕ) (s : SectionHeader) → s.sh_type ≡ t → 0 < t → t < 8 → IsPlaced len s → LiesInside len s
placed_inside len t s is low high placed = elim placed.range [
  | inl null ↦ absurd (omega (arith, is, null))
  | inr other ↦ elim other [
    | inl nobits ↦ absurd (omega (arith, is, nobits))
    | inr inside ↦ inside
  ]
]

-- a string table lies inside
pub strings_inside : (len : ℕ) (ss : List SectionHeader) (k : ℕ) → All (IsPlaced len) ss → IsStringTable ss k → LiesInside len (section ss k)
strings_inside len ss k placed is = elim (cases_lt k (length ss)) [
  | inl inside ↦ placed_inside len 3 (section ss k) is (omega arith) (omega arith) (placed k null_section inside)
  | inr past ↦
      let none : section ss k ≡ null_section = get_or_past ss k null_section past in
      absurd (omega (arith, is, ap (λ (s : SectionHeader). s.sh_type) none))
]

-- a symbol table that is found among sections: a fact on all of them holds of it, and it was counted
record Found (P : SectionHeader → Type 0) (ss : List SectionHeader) (s : SectionHeader) : Type 0 where
  is : find is_symbol_table ss ≡ Some s
  kind : s.sh_type ≡ 2
  holds : P s
  counted : 1 ≤ count_by is_symbol_table ss

abbrev Finds : (SectionHeader → Type 0) → List SectionHeader → Type 0
Finds P ss = (find is_symbol_table ss ≡ None) ⊎ ((s : SectionHeader) × Found P ss s)

count_more : (s : SectionHeader) (ss : List SectionHeader)
    → count_by is_symbol_table (s ∷ ss) ≡ cond {A = ℕ} (is_symbol_table s) 1 0 + count_by is_symbol_table ss
count_more s ss = sum_by-cons (λ x. cond {A = ℕ} (is_symbol_table x) 1 0) s ss

found_at : (P : SectionHeader → Type 0) (s : SectionHeader) (ss : List SectionHeader) (test : Bool) → is_symbol_table s ≡ test → P s → Finds P ss → Finds P (s ∷ ss)
found_at P s ss true e holds rest =
    inr (
      s,
      record {
        is = ap (λ (b : Bool). cond b (Some s) (find is_symbol_table ss)) e;
        kind = eqb-true s.sh_type 2 e;
        holds = holds;
        counted = let one = ap (λ (b : Bool). cond {A = ℕ} b 1 0) e in let step = count_more s ss in omega (arith, one, step);
      },
    )
found_at P s ss false e holds rest =
    let next = ap (λ (b : Bool). cond b (Some s) (find is_symbol_table ss)) e in
    elim rest [
      | inl none ↦ inl (next ∙ none)
      | inr found ↦ inr (
        found.0,
        record {
          is = next ∙ found.1.is;
          kind = found.1.kind;
          holds = found.1.holds;
          counted = let step = count_more s ss in omega (arith, found.1.counted, step);
        },
      )
    ]

finds : (P : SectionHeader → Type 0) (ss : List SectionHeader) → All P ss → Finds P ss
finds P [] all = inl refl
finds P (s ∷ ss) all = found_at P s ss (is_symbol_table s) refl (All-head P s ss all) (finds P ss (All-tail P s ss all))

-- the symbol table lies inside; one that is not there is empty
pub table_inside : (len : ℕ) (ss : List SectionHeader) → All (IsPlaced len) ss → LiesInside len (symbol_table ss)
table_inside len ss placed = elim (finds (IsPlaced len) ss placed) [
  | inl none ↦
      let e : symbol_table ss ≡ null_section = ap (λ (o : Option SectionHeader). unwrap_or o null_section) none in
      subst (LiesInside len) (sym e) (omega arith)
  | inr found ↦
      let e : symbol_table ss ≡ found.0 = ap (λ (o : Option SectionHeader). unwrap_or o null_section) found.1.is in
      subst (LiesInside len) (sym e) (placed_inside len 2 found.0 found.1.kind (omega arith) (omega arith) found.1.holds)
]

-- either symbols and their names can be read, or there is no symbol table
pub reads_symbols : (len : ℕ) (h : FileHeader) (ss : List SectionHeader) → HasTable len h → All (IsPlaced len) ss → HasGoodSymbolTable ss
    → HasSymbolStrings len h ss ⊎ (symbol_table ss ≡ null_section)
reads_symbols len h ss table placed good =
    elim (finds (λ s. s.sh_type ≡ 2 → IsSymbolTable ss s) ss good.tables) [
      | inl none ↦ inr (ap (λ (o : Option SectionHeader). unwrap_or o null_section) none)
      | inr found ↦
          let e : symbol_table ss ≡ found.0 = ap (λ (o : Option SectionHeader). unwrap_or o null_section) found.1.is in
          let own : IsSymbolTable ss (symbol_table ss) = subst (IsSymbolTable ss) (sym e) (found.1.holds found.1.kind) in
          inl record {
            symbols = record {
              table = table;
              one = omega (arith, good.one, found.1.counted);
              entsize = own.entsize;
              some = own.some;
              whole = own.whole;
              inside = table_inside len ss placed;
            };
            strings = own.strings;
            inside = strings_inside len ss (symbol_table ss).sh_link placed own.strings;
          }
    ]
