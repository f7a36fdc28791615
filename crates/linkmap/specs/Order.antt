-- Which line may stand next in a map, by the lines before it.
use Rattle.std.specs.Prelude.{ℕ, ◌-◌, ◌≡◌, ⊤, Some, None, List, [], ◌∷◌, ◌++◌, length, slice_get, MatchOption}
use Rattle.elf_model.specs.Image.MapRecord.{MapRecord}
use Rattle.linkmap.specs.Borrowed.{object_row, place_row, common_row, slot_row, kept_row, symbol_row}
use Rattle.elf_model.specs.Image.MapText.{Line, Version, Object, Drop, Place, Common, Got, Slot, Symbol, Symtab, End, DropBefore, PlaceBefore, CommonBefore, SlotBefore, SymbolBefore}
use Rattle.linkmap.specs.declared.fields.MapLine.{MapLine}
use Rattle.linkmap.specs.declared.fields.MapLine.TheVariants as line

-- the map of a version that has no lines but the first and the last
abbrev pub empty_map : ℕ → MapRecord
empty_map n = record { version = n; objects = []; drops = []; places = []; commons = []; got = None; slots = []; symbols = []; symtab = None }

-- a line as the text sees it
abbrev pub row : MapLine → Line
row (line.Object o) = Object (object_row o)
row (line.Drop d) = Drop d
row (line.Place p) = Place (place_row p)
row (line.Common c) = Common (common_row c)
row (line.Got g) = Got g
row (line.Slot s) = Slot (slot_row s)
row (line.Plain s) = Symbol (symbol_row s)
row (line.Symbol s) = Symbol (kept_row s)
row (line.Symtab t) = Symtab t
row line.End = End

-- the map so far has no lines from one kind on
abbrev pub EndsBeforeSymtab : MapRecord → Type 0
EndsBeforeSymtab m = m.symtab ≡ None

abbrev pub EndsBeforeSymbols : MapRecord → Type 0
EndsBeforeSymbols m = (length m.symbols ≡ 0) × EndsBeforeSymtab m

abbrev pub EndsBeforeSlots : MapRecord → Type 0
EndsBeforeSlots m = (length m.slots ≡ 0) × EndsBeforeSymbols m

abbrev pub EndsBeforeGot : MapRecord → Type 0
EndsBeforeGot m = (m.got ≡ None) × EndsBeforeSlots m

abbrev pub EndsBeforeCommons : MapRecord → Type 0
EndsBeforeCommons m = (length m.commons ≡ 0) × EndsBeforeGot m

abbrev pub EndsBeforePlaces : MapRecord → Type 0
EndsBeforePlaces m = (length m.places ≡ 0) × EndsBeforeCommons m

abbrev pub EndsBeforeDrops : MapRecord → Type 0
EndsBeforeDrops m = (length m.drops ≡ 0) × EndsBeforePlaces m

-- the element is above the last of the list, if there is one
abbrev pub IsAboveLast : {X : Type 0} → (X → X → Type 0) → List X → X → Type 0
IsAboveLast Before xs x = MatchOption (slice_get xs (length xs - 1)) ⊤ (λ last. Before last x)

-- the line may stand behind the lines of the map so far
abbrev pub MayStand : MapRecord → Line → Type 0
MayStand m (Version n) = ⊥
MayStand m (Object o) = EndsBeforeDrops m × (o.object ≡ length m.objects)
MayStand m (Drop d) = EndsBeforePlaces m × IsAboveLast DropBefore m.drops d
MayStand m (Place p) = EndsBeforeCommons m × IsAboveLast PlaceBefore m.places p
MayStand m (Common c) = EndsBeforeGot m × IsAboveLast CommonBefore m.commons c
MayStand m (Got g) = EndsBeforeGot m
MayStand m (Slot s) = EndsBeforeSymbols m × IsAboveLast SlotBefore m.slots s
MayStand m (Symbol s) = EndsBeforeSymtab m × IsAboveLast SymbolBefore m.symbols s
MayStand m (Symtab t) = EndsBeforeSymtab m × (m.version ≡ 2)
MayStand m End = ⊥

-- the map with one more line
abbrev pub add : MapRecord → Line → MapRecord
add m (Version n) = m
add m (Object o) = record m { objects = m.objects ++ o ∷ [] }
add m (Drop d) = record m { drops = m.drops ++ d ∷ [] }
add m (Place p) = record m { places = m.places ++ p ∷ [] }
add m (Common c) = record m { commons = m.commons ++ c ∷ [] }
add m (Got g) = record m { got = Some g }
add m (Slot s) = record m { slots = m.slots ++ s ∷ [] }
add m (Symbol s) = record m { symbols = m.symbols ++ s ∷ [] }
add m (Symtab t) = record m { symtab = Some t }
add m End = m
