-- What is known of the slots of an object's symbols.
use Rattle.std.specs.Prelude.{◌≡◌, ℕ, Bool, true, false, List, None, Option, Some, slice_index_or}
use Rattle.elf_model.specs.Link.Loading.{LoadedObject}
use Rattle.elf_model.specs.Link.Relocation.{symbol_at}
use Rattle.elf_model.specs.Link.Slots.{Request, requested_address, target_of}
use Rattle.elf_model.specs.Image.MapRecord.{SlotRow}
use Rattle.check_link.specs.Slots.{kind_view, line_of}
use Rattle.check_relocs.specs.Known.{AreKnown}
use Rattle.check_relocs.specs.KnownTargets.{AreTargetsKnown}
use Rattle.check_relocs.specs.Referrers.{object_here}
use Rattle.check_relocs.specs.declared.known_symbols.KnownSymbols.{KnownSymbols}
use Rattle.check_relocs.specs.declared.referrer.Referrer.{Referrer}
use Rattle.check_relocs.specs.declared.slots.SymbolSlot.{SymbolSlot}

-- the request for a slot of symbol number j of an object
abbrev pub request_at : ℕ → LoadedObject → ℕ → Bool → Request
request_at object o j thread = record { kind = kind_view thread; target = target_of (symbol_at object o j) }

-- the request for a slot of symbol number j of the object whose relocations are gone through
abbrev pub request_here : Referrer → ℕ → Bool → Request
request_here r j thread = request_at r.number (object_here r) j thread

-- what is known of the symbols of an object is where their slots are
abbrev pub AreSlots : Referrer → List (Option SymbolSlot) → Type 0
AreSlots r ss = AreKnown (λ j s. s.address ≡ requested_address r.bindings.now.places.slots (request_here r j s.thread)) ss

-- the mark at a position
abbrev pub mark_at : List Bool → ℕ → Bool
mark_at marks i = slice_index_or marks i false

-- the slot lines
abbrev pub rows_here : Referrer → List SlotRow
rows_here r = r.bindings.now.places.slots

-- a request is noted: its line has a mark, or there is none and that is told
pub record IsNoted (rows : List SlotRow) (unserved : Bool) (marks : List Bool) (q : Request) : Type 0 where
  pub there : (i : ℕ) → line_of rows q ≡ Some i → mark_at marks i ≡ true
  pub none : line_of rows q ≡ None → unserved ≡ true

-- what is known of them is of which kind a slot is whose request is noted
abbrev pub AreAsked : Bool → List Bool → Referrer → List (Option Bool) → Type 0
AreAsked unserved marks r ts = AreKnown (λ j t. IsNoted (rows_here r) unserved marks (request_here r j t)) ts

-- both what they mean and where their slots are
pub record AreSymbolsKnown (r : Referrer) (known : KnownSymbols) : Type 0 where
  pub targets : AreTargetsKnown r known.targets.items
  pub slots : AreSlots r known.slots.items
