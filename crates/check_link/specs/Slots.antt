-- Requests for slots of the GOT as the code has them, and tables of positions of slots.
use Rattle.std.specs.Prelude.{◌≡◌, ℕ, ◌&&◌, ◌||◌, Bool, true, false, not, is_some, List, [], ◌∷◌, None, Option, Some, map}
use Rattle.std.specs.BTreeMap.{BTreeMap, get}
use Rattle.std.specs.List.{position, position_from}
use Rattle.std.specs.Str.{bytes_eq}
use Rattle.check_load.specs.Numbered.{name_at}
use Rattle.std.specs.declared.cmp.Ordering.{Ordering}
use Rattle.elf_model.specs.Link.Loading.{LoadedObject}
use Rattle.elf_model.specs.Image.MapRecord.{OfLocal, OfName, SlotRow, TargetRow}
use Rattle.elf_model.specs.Link.Slots.{Request, is_slot_of, row_request, same_request}
use Rattle.elf_model.specs.declared.link_map.SlotKind.{SlotKind}
use Rattle.elf_model.specs.declared.link_map.SlotKind.TheVariants as slot
use Rattle.check_link.specs.contracts.requests.RequestOrd.TheImpl as request_ord
use Rattle.check_link.specs.Chosen.{position_at}
use Rattle.check_link.specs.declared.slot_positions.SlotPositions.{SlotPositions}
use Rattle.check_link.specs.declared.requests.Request as code
use Rattle.check_link.specs.declared.requests.Wanted.{Wanted}
use Rattle.check_link.specs.declared.requests.Wanted.TheVariants as wanted

abbrev pub kind_view : Bool → SlotKind
kind_view true = slot.Thread
kind_view false = slot.Value

abbrev pub target_view : Wanted → TargetRow
target_view (wanted.Name name) = OfName name.now
target_view (wanted.Local object symbol) = OfLocal object symbol

abbrev pub request_view : code.Request → Request
request_view q = record { kind = kind_view q.thread; target = target_view q.target }

-- a request as the code has it
abbrev pub is_thread : SlotKind → Bool
is_thread slot.Value = false
is_thread slot.Thread = true

abbrev pub key_target : TargetRow → Wanted
key_target (OfName name) = wanted.Name (record { ref_ptr = (0, 0); now = name })
key_target (OfLocal object symbol) = wanted.Local object symbol

abbrev pub key_of : Request → code.Request
key_of q = record { thread = is_thread q.kind; target = key_target q.target }

-- how requests compare
abbrev pub request_order : code.Request → code.Request → Ordering
request_order = (request_ord.ghosts).cmp

-- the position that an ordered table has for a request
abbrev pub in_table : BTreeMap code.Request ℕ → Request → Option ℕ
in_table table q = get request_order table (key_of q)

-- the number of the name of a target; None where it has none
abbrev pub number_for : List (List ℕ) → TargetRow → Option ℕ
number_for names (OfName name) = position (bytes_eq name) names
number_for names (OfLocal object symbol) = None

-- the positions of slots of a kind for names, at the numbers of these
abbrev pub positions_of : SlotKind → SlotPositions → List (Option ℕ)
positions_of slot.Value p = p.values.items
positions_of slot.Thread p = p.threads.items

-- the position of a request, given the number of its name where it has one
abbrev pub place_at : SlotPositions → Request → Option ℕ → Option ℕ
place_at p q (Some k) = position_at (positions_of q.kind p) k
place_at p q None = in_table p.others q

-- the position of a request, where names have these numbers
unfoldable pub place_in : List (List ℕ) → SlotPositions → Request → Option ℕ
place_in names p q = place_at p q (number_for names q.target)

-- the position of the first slot line for a request
abbrev pub line_of : List SlotRow → Request → Option ℕ
line_of rows q = position_from (is_slot_of q) 0 rows

-- a table has for each request the position of the first slot line
abbrev pub IsSlotIndex : List (List ℕ) → List SlotRow → SlotPositions → Type 0
IsSlotIndex names rows p = (q : Request) → place_in names p q ≡ line_of rows q

-- each request is neither one of those seen nor one of those in front of it
abbrev pub are_fresh : (Request → Bool) → List Request → Bool
are_fresh seen [] = true
are_fresh seen (q ∷ qs) = not (seen q) && are_fresh (λ r. seen r || same_request r q) qs

abbrev pub none_seen : Request → Bool
none_seen q = false

-- no two requests are the same
abbrev pub are_distinct : List Request → Bool
are_distinct qs = are_fresh none_seen qs

-- a table has a position for a request
abbrev pub has_in : List (List ℕ) → SlotPositions → Request → Bool
has_in names p q = is_some (place_in names p q)

-- slot lines, and the objects by whose symbols they are found
pub record Slots : Type 0 where
  pub rows : List SlotRow
  pub objects : List LoadedObject

-- the request for a slot of a kind for the name of symbol number j of an object
abbrev pub name_request : Bool → LoadedObject → ℕ → Request
name_request thread o j = record { kind = kind_view thread; target = OfName (name_at o.bytes j) }

pub record IsSlotTable (names : List (List ℕ)) (rows : List SlotRow) (p : SlotPositions) (distinct : Bool) : Type 0 where
  pub index : IsSlotIndex names rows p
  pub distinct_is : distinct ≡ are_distinct (map row_request rows)
