-- What the names and the symbols of objects mean.
use Rattle.std.specs.Prelude.{◌≡◌, ◌↔◌, ◌%◌, ◌^◌, ◌&&◌, not, true, false, IsTrue, List, IsSomeAnd, option_map, unwrap_or}
use Rattle.std.specs.Option.{option_map_or}
use Rattle.elf_model.specs.Link.Loading.{LoadedObject}
use Rattle.elf_model.specs.Link.Pieces.{Piece, is_alloc, kept_sections}
use Rattle.elf_model.specs.Link.Meaning.{is_in_thread_storage, meaning_size, meaning_value}
use Rattle.elf_model.specs.Link.Placement.{Where}
use Rattle.elf_model.specs.Link.Relocation.{IsMixed, IsUndefined, definition_of, is_local}
use Rattle.elf_model.specs.Link.Resolution.{SymbolOf, section_of}
use Rattle.elf_model.specs.Image.RightLink.{Subject, objects_of, where_of}
use Rattle.check_link.specs.Slots.{Slots}
use Rattle.check_relocs.specs.declared.targets.Target.{Target}

-- the objects and where their pieces are, which give symbols their meaning
pub record Bound : Type 0 where
  pub objects : List LoadedObject
  pub places : Where

-- the objects of a link, and where their pieces are
abbrev pub bound_of : Subject → Bound
bound_of s = record { objects = objects_of s; places = where_of s }

-- a LOCAL symbol of a section that isn't kept
abbrev pub IsOfUnkept : List LoadedObject → SymbolOf → Type 0
IsOfUnkept objects s = (is_local s ≡ true) × IsSomeAnd (section_of objects s) (λ h. (is_alloc h && not s.dropped) ≡ false)

-- what a symbol means to relocations: the values are those of the definition that they use, modulo 2 ^ 64
pub record IsTargetOf (b : Bound) (s : SymbolOf) (t : Target) : Type 0 where
  pub undefined : IsTrue t.undefined ↔ IsUndefined b.objects s
  pub unkept : IsTrue t.unkept ↔ IsOfUnkept b.objects s
  pub dropped : t.dropped ≡ s.dropped
  pub mixed : IsTrue t.mixed ↔ IsSomeAnd (definition_of b.objects s) (IsMixed b.objects)
  pub thread_local : t.thread_local ≡ option_map_or (is_in_thread_storage b.objects) (definition_of b.objects s) false
  pub value : t.value ≡ unwrap_or (option_map (meaning_value b.places) (definition_of b.objects s)) 0 % 2 ^ 64
  pub size : t.size ≡ unwrap_or (option_map meaning_size (definition_of b.objects s)) 0

-- the output sections, the slots and the places of objects belong together
pub record AreBindings (objects : List LoadedObject) (outputs : List Piece) (slots : Slots) (places : Where) : Type 0 where
  pub outputs_are : outputs ≡ kept_sections objects
  pub rows_are : slots.rows ≡ places.slots
  pub objects_are : slots.objects ≡ objects
