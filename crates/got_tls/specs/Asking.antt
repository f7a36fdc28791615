-- What relocations ask of the GOT, one relocation after the other, and where slots stand in it.
use Rattle.std.specs.Prelude.{◌≡◌, ℕ, ◌+◌, ◌*◌, ◌||◌, Bool, false, List, [], ◌∷◌, Option, Some, None, position}
use Rattle.std.specs.Option.{option_map_or}
use Rattle.elf_model.specs.Link.Loading.{LoadedObject}
use Rattle.elf_model.specs.Link.Relocation.{Relocation, symbol_at}
use Rattle.elf_model.specs.Link.Slots.{Request, asks_for_got, names_got, request_of, same_request, target_of}
use Rattle.elf_model.specs.declared.link_map.SlotKind.{SlotKind}
use Rattle.indexmap.specs.IndexSet.{insert_key}

-- how far behind the beginning of a GOT with these slots that of a request stands, 0 where there is none
abbrev pub offset_of : List Request → Request → ℕ
offset_of qs q = option_map_or (λ i. 8 + 8 * i) (position (same_request q) qs) 0

-- what was asked for of objects: a GOT, and slots
pub record Wants : Type 0 where
  pub got : Bool
  pub slots : List Request
  pub objects : List LoadedObject

abbrev pub nothing : List LoadedObject → Wants
nothing objects = record { got = false; slots = []; objects = objects }

-- a request more: its slot goes last where it is new
abbrev pub with_request : List Request → Option Request → List Request
with_request qs None = qs
with_request qs (Some q) = insert_key same_request qs q

-- what one more relocation leaves
abbrev pub with_relocation : List LoadedObject → Wants → Relocation → Wants
with_relocation objects w r = record { got = w.got || asks_for_got objects r; slots = with_request w.slots (request_of r); objects = w.objects }

-- a flag that, unless it is set, no symbol of an object names the GOT
abbrev pub TellsOfGot : List LoadedObject → ℕ → LoadedObject → Bool → Type 0
TellsOfGot objects n o named = named ≡ false → (j : ℕ) → names_got objects (symbol_at n o j) ≡ false

-- what relocations leave, one after the other
abbrev pub with_relocations : List LoadedObject → Wants → List Relocation → Wants
with_relocations objects w [] = w
with_relocations objects w (r ∷ rs) = with_relocations objects (with_relocation objects w r) rs

-- the slot of a kind for a symbol of an object
abbrev pub request_for : SlotKind → ℕ → LoadedObject → ℕ → Request
request_for kind object o number = record { kind = kind; target = target_of (symbol_at object o number) }
