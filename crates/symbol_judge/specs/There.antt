-- The names that a symbol table has to have.
use Rattle.std.specs.Prelude.{◌≡◌, ◌&&◌, Bool, ℕ, List, All, false, is_some, not, true}
use Rattle.elf_model.specs.Link.Loading.{LoadedObject}
use Rattle.elf_model.specs.Link.Placement.{Placed}
use Rattle.elf_model.specs.Link.Relocation.{is_local}
use Rattle.elf_model.specs.Link.Resolution.{SymbolOf, all_symbols, is_in_thread_section, is_undefined}
use Rattle.check_load.specs.NameNumbers.{is_among}
use Rattle.judge_model.specs.declared.certificate.MergedLine.{MergedLine}
use Rattle.link_fields.specs.Parts.{Parts, symbol_value}

abbrev pub is_tabled_in : List LoadedObject → List Placed → List MergedLine → SymbolOf → Bool
is_tabled_in objects placed merged s =
    not (is_local s)
    && (not (is_undefined s.entry) && (is_some (symbol_value placed merged s) && not (is_in_thread_section objects s)))

-- where a table has to have the name of a symbol, it is among names
pub record IsThere (objects : List LoadedObject) (placed : List Placed) (merged : List MergedLine) (names : List (List ℕ)) (s : SymbolOf) : Type 0 where
  pub there : is_tabled_in objects placed merged s ≡ true → is_among names s.name ≡ true

-- so it is for all symbols, unless words strip
pub record HasNames (strips : Bool) (p : Parts) (names : List (List ℕ)) : Type 0 where
  pub names_are : strips ≡ false → All (IsThere p.objects p.placed p.merged names) (all_symbols p.objects)
