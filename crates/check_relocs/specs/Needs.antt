-- What kept relocations ask of the GOT.
use Rattle.std.specs.Prelude.{◌≡◌, ◌||◌, ℕ, Bool, false, not, List, Option, Some, length}
use Rattle.std.specs.List.{list_any}
use Rattle.std.specs.Option.{option_map_or}
use Rattle.elf_model.specs.Link.Loading.{LoadedObject}
use Rattle.elf_model.specs.Image.MapRecord.{SlotRow}
use Rattle.elf_model.specs.Link.Relocation.{Relocation, relocations}
use Rattle.elf_model.specs.Link.Slots.{Request, asks_for_got, has_got, is_slot_of, names_got, request_of, requests, same_request}
use Rattle.check_link.specs.Slots.{line_of}
use Rattle.check_relocs.specs.Known.{AreKnown}
use Rattle.check_relocs.specs.KnownSlots.{AreAsked, mark_at, rows_here}
use Rattle.check_relocs.specs.Referrers.{objects_here, symbol_here}
use Rattle.check_relocs.specs.declared.needs.KnownNeeds.{KnownNeeds}
use Rattle.check_relocs.specs.declared.needs.Needs.{Needs}
use Rattle.check_relocs.specs.declared.referrer.Referrer.{Referrer}

-- what is known of the symbols of an object is whether they have the GOT's name
abbrev pub AreGotNames : Referrer → List (Option Bool) → Type 0
AreGotNames r us = AreKnown (λ j u. u ≡ names_got (objects_here r) (symbol_here r j)) us

-- a relocation asks for the slot of a request
abbrev pub asks_for_slot : Request → Relocation → Bool
asks_for_slot q r = option_map_or (same_request q) (request_of r) false

-- a relocation asks for a slot that isn't there
abbrev pub is_unserved : List SlotRow → Relocation → Bool
is_unserved rows r = option_map_or (λ q. not (list_any (is_slot_of q) rows)) (request_of r) false

-- needs have gained those of relocations
pub record HaveGained (objects : List LoadedObject) (rows : List SlotRow) (rs : List Relocation) (old new : Needs) : Type 0 where
  pub got : new.got ≡ (old.got || list_any (asks_for_got objects) rs)
  pub unserved : new.unserved ≡ (old.unserved || list_any (is_unserved rows) rs)
  pub asked :
      (q : Request) (i : ℕ) → line_of rows q ≡ Some i →
      mark_at new.asked.items i ≡ (mark_at old.asked.items i || list_any (asks_for_slot q) rs)
  pub size : length new.asked.items ≡ length old.asked.items

-- needs are those of all kept relocations: whether they ask for a GOT, and for a slot that isn't there, and which first lines of slots
-- they ask for
pub record AreNeeds (objects : List LoadedObject) (rows : List SlotRow) (needs : Needs) : Type 0 where
  pub got : needs.got ≡ has_got objects
  pub unserved : needs.unserved ≡ list_any (is_unserved rows) (relocations objects)
  pub asked :
      (q : Request) (i : ℕ) → line_of rows q ≡ Some i →
      mark_at needs.asked.items i ≡ list_any (same_request q) (requests objects)
  pub size : length needs.asked.items ≡ length rows

-- what is known of the symbols of an object: whether they have the GOT's name, and of which of their slots the request is noted
pub record AreNeedsKnown (r : Referrer) (needs : Needs) (known : KnownNeeds) : Type 0 where
  pub named : AreGotNames r known.named.items
  pub asked : AreAsked needs.unserved needs.asked.items r known.asked.items
  pub size : length needs.asked.items ≡ length (rows_here r)
