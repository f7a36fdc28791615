-- What references to LOCAL symbols use, without their names, which mean nothing to relocations.
use Rattle.std.specs.Prelude.{◌≡◌, ◌↔◌, ◌&&◌, [], true, false, cond, not, IsSomeAnd, IsTrue, List, None, Option, Some, option_map, unwrap_or}
use Rattle.std.specs.Option.{option_map_or}
use Rattle.elf_model.specs.Link.Loading.{LoadedObject}
use Rattle.elf_model.specs.Link.Meaning.{Meaning, Symbol, is_in_thread_storage, meaning_size, meaning_value}
use Rattle.elf_model.specs.Link.Pieces.{is_alloc}
use Rattle.elf_model.specs.Link.Placement.{Where}
use Rattle.elf_model.specs.Link.Relocation.{IsMixed, is_local}
use Rattle.elf_model.specs.Link.Resolution.{SymbolOf, is_undefined, section_of}
use Rattle.relocate.specs.References.{LacksDefinition}
use Rattle.relocate.specs.declared.referrer.Reference.{Reference}

-- a symbol without its name
abbrev pub unnamed : SymbolOf → SymbolOf
unnamed s = record s { name = [] }

-- what a reference to a LOCAL symbol uses, without its name
abbrev pub local_use : SymbolOf → Option Meaning
local_use s = cond (is_undefined s.entry) None (Some (Symbol (unnamed s)))

-- two definitions, or none, that relocations can't tell apart
pub record AreAlike (objects : List LoadedObject) (x y : Option Meaning) : Type 0 where
  pub none : (x ≡ None) ↔ (y ≡ None)
  pub mixed : IsSomeAnd x (IsMixed objects) ↔ IsSomeAnd y (IsMixed objects)
  pub thread_local : option_map_or (is_in_thread_storage objects) x false ≡ option_map_or (is_in_thread_storage objects) y false
  pub value : (w : Where) → unwrap_or (option_map (meaning_value w) x) 0 ≡ unwrap_or (option_map (meaning_value w) y) 0
  pub size : unwrap_or (option_map meaning_size x) 0 ≡ unwrap_or (option_map meaning_size y) 0

-- what a reference to a symbol is where it uses a definition, or none
pub record IsReferenceBy (objects : List LoadedObject) (s : SymbolOf) (d : Option Meaning) (r : Reference) : Type 0 where
  pub undefined : IsTrue r.undefined ↔ LacksDefinition s.number s.entry d
  pub unkept : IsTrue r.unkept ↔ ((is_local s ≡ true) × IsSomeAnd (section_of objects s) (λ h. (is_alloc h && not s.dropped) ≡ false))
  pub dropped : r.dropped ≡ s.dropped
  pub thread_local : r.thread_local ≡ option_map_or (is_in_thread_storage objects) d false
  pub mixed : IsTrue r.mixed ↔ IsSomeAnd d (IsMixed objects)
