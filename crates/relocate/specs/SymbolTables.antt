-- Tables with a row for each symbol of an object: what a reference to the symbol is, what that uses is worth.
use Rattle.std.specs.Prelude.{◌≡◌, ◌↔◌, ◌%◌, ◌^◌, ◌&&◌, ℕ, true, false, not, List, Option, Some, IsSomeAnd, IsTrue, option_map, unwrap_or}
use Rattle.std.specs.List.{slice_get}
use Rattle.std.specs.Option.{option_map_or}
use Rattle.elf_model.specs.Link.Loading.{LoadedObject}
use Rattle.elf_model.specs.Link.ChosenSymbols.{chosen_symbols}
use Rattle.elf_model.specs.Link.Meaning.{Meaning, is_in_thread_storage, meaning_size, meaning_value, meant}
use Rattle.elf_model.specs.Inputs.ObjectFile.{section, sections}
use Rattle.elf_model.specs.Link.Pieces.{AreLawfulKinds, is_alloc}
use Rattle.elf_model.specs.Link.Placement.{Where, got_start}
use Rattle.elf_model.specs.Link.Relocation.{IsMixed, IsUndefined, definition_of, is_local, symbol_at}
use Rattle.elf_model.specs.Link.Resolution.{SymbolOf, section_of}
use Rattle.elf_model.specs.Link.Slots.{slots}
use Rattle.search.specs.Views.{loaded_view}
use Rattle.layout.specs.Mixed.{AreMixed}
use Rattle.got_tls.specs.Askers.{IsAsker, all_asked, asking}
use Rattle.relocate.specs.References.{IsObjectAt}
use Rattle.relocate.specs.Values.{pointer_in, where_in}
use Rattle.relocate.specs.declared.referrer.Reference.{Reference}
use Rattle.relocate.specs.declared.referrer.Referrer.{Referrer}
use Rattle.relocate.specs.declared.referrer.Relocated.{Relocated}
use Rattle.relocate.specs.declared.symbol_values.SymbolValue.{SymbolValue}
use Rattle.relocate.specs.declared.symbol_values.Valued.{Valued}

-- row j tells of symbol j, as far as there are rows
abbrev pub EachTells : {X : Type 0} → (ℕ → X → Type 0) → List X → Type 0
EachTells Tells rows = (j : ℕ) (x : _) → slice_get rows j ≡ Some x → Tells j x

-- what a reference to a symbol is
pub record IsReference (objects : List LoadedObject) (s : SymbolOf) (r : Reference) : Type 0 where
  pub undefined : IsTrue r.undefined ↔ IsUndefined objects s
  pub unkept : IsTrue r.unkept ↔ ((is_local s ≡ true) × IsSomeAnd (section_of objects s) (λ h. (is_alloc h && not s.dropped) ≡ false))
  pub dropped : r.dropped ≡ s.dropped
  pub thread_local : r.thread_local ≡ option_map_or (is_in_thread_storage objects) (definition_of objects s) false
  pub mixed : IsTrue r.mixed ↔ IsSomeAnd (definition_of objects s) (IsMixed objects)

abbrev pub AreReferences : List LoadedObject → ℕ → LoadedObject → List Reference → Type 0
AreReferences objects n o = EachTells (λ j. IsReference objects (symbol_at n o j))

-- an object whose relocations are judged, and all objects
abbrev pub referring : Referrer → LoadedObject
referring r = loaded_view r.loaded.now

abbrev pub all_of : Referrer → List LoadedObject
all_of r = r.resolved.now

pub record IsReferrer (r : Referrer) : Type 0 where
  pub here : IsObjectAt (all_of r) r.number (referring r)
  pub mixed : AreMixed (all_of r) r.mixed.now
  pub asker : IsAsker r.asker
  pub asked_all : all_asked r.asker ≡ all_of r
  pub asked_number : r.asker.number ≡ r.number
  pub asked_own : asking r.asker ≡ referring r
  pub table : AreReferences (all_of r) r.number (referring r) r.table.items

-- a section of an object that entries relocate: its size
pub record IsRelocated (o : LoadedObject) (t : Relocated) : Type 0 where
  pub size : t.size ≡ (section (sections o.bytes) t.number).sh_size

-- the value and the size of what a reference to a symbol uses, 0 of nothing
pub record IsValueOf (objects : List LoadedObject) (w : Where) (s : SymbolOf) (v : SymbolValue) : Type 0 where
  pub value : v.value ≡ unwrap_or (option_map (meaning_value w) (definition_of objects s)) 0 % 2 ^ 64
  pub size : v.size ≡ unwrap_or (option_map meaning_size (definition_of objects s)) 0 % 2 ^ 64

abbrev pub AreValues : List LoadedObject → Where → ℕ → LoadedObject → List SymbolValue → Type 0
AreValues objects w n o = EachTells (λ j. IsValueOf objects w (symbol_at n o j))

-- what a meaning is worth, 0 of none
pub record IsWorth (w : Where) (m : Option Meaning) (v : SymbolValue) : Type 0 where
  pub value : v.value ≡ unwrap_or (option_map (meaning_value w) m) 0 % 2 ^ 64
  pub size : v.size ≡ unwrap_or (option_map meaning_size m) 0 % 2 ^ 64

-- row p is what the chosen definition at place p is worth, as far as there are rows
abbrev pub AreChosenValues : List LoadedObject → Where → List SymbolValue → Type 0
AreChosenValues objects w = EachTells (λ p v. IsSomeAnd (slice_get (chosen_symbols objects) p) (λ d. IsWorth w (meant objects d) v))

-- an object whose relocations are given their values, all objects, and where things are
abbrev pub valued_object : Valued → LoadedObject
valued_object v = loaded_view v.loaded.now

abbrev pub all_valued : Valued → List LoadedObject
all_valued v = v.resolved.now

abbrev pub where_of : Valued → Where
where_of v = where_in v.placement.now

pub record IsValued (v : Valued) : Type 0 where
  pub here : IsObjectAt (all_valued v) v.number (valued_object v)
  pub kinds : AreLawfulKinds v.placement.now.objects
  pub slots : v.slots.now.slots ≡ slots v.placement.now.objects
  pub slots_of : v.slots.now.objects ≡ all_valued v
  pub pointer : v.pointer ≡ pointer_in (where_of v)
  pub got : v.got ≡ got_start (where_of v).got % 2 ^ 64
  pub chosen : AreChosenValues (all_valued v) (where_of v) v.chosen.now
  pub table : AreValues (all_valued v) (where_of v) v.number (valued_object v) v.table.items
