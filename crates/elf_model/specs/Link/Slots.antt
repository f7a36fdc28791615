-- The GOT: whether there is one, which slots it has, and what these hold (AMD64 psABI 4.4, "Relocation Types"; ELF
-- Handling For Thread-Local Storage for the slots of thread offsets; that a slot is shared by all that ask for the same,
-- and the first word of the GOT, is the profile's).
use Rattle.std.specs.Prelude.{ℕ, ◌+◌, ◌*◌, ◌%◌, ◌^◌, ◌==◌, ◌&&◌, ◌||◌, Bool, true, false, not, cond, List, [], ◌∷◌, ◌++◌, Option, Some, None, filter, find, length, option_map, replicate, unwrap_or}
use Rattle.std.specs.List.{filter_map, flat_map, list_any, slice_get}
use Rattle.std.specs.Option.{is_none, option_and_then, option_map_or}
use Rattle.std.specs.Str.{bytes_eq}
use Rattle.byteview.specs.Numbers.{le_bytes}
use Rattle.elf_model.specs.Link.LinkerNames.{got_name}
use Rattle.elf_model.specs.Link.Loading.{LoadedObject}
use Rattle.elf_model.specs.Image.MapRecord.{SlotRow, TargetRow, OfName, OfLocal}
use Rattle.elf_model.specs.Link.Meaning.{Meaning, meaning, meaning_value}
use Rattle.elf_model.specs.Link.Placement.{Where}
use Rattle.elf_model.specs.Link.Relocation.{Formula, S+A-GOT, G+A, G+GOT+A-P, GOT+A-P, GT+GOT+A-P, Relocation, definition_of, is_local, modulo_64, relocation_kind, relocations, symbol_at}
use Rattle.elf_model.specs.Link.Resolution.{SymbolOf, chosen}
use Rattle.elf_model.specs.Link.ThreadStorage.{block_in, thread_offset}
use Rattle.elf_model.specs.declared.link_map.SlotKind.{SlotKind}
use Rattle.elf_model.specs.declared.link_map.SlotKind.TheVariants as slot

-- What a formula asks for.

-- a slot for a value where it has G, one for a thread offset where it has GT, and none where it has neither
abbrev pub slot_kind_of : Formula → Option SlotKind
slot_kind_of G+A = Some slot.Value
slot_kind_of G+GOT+A-P = Some slot.Value
slot_kind_of GT+GOT+A-P = Some slot.Thread
slot_kind_of _ = None

-- a GOT, where it has G, GT or GOT
abbrev pub speaks_of_got : Formula → Bool
speaks_of_got S+A-GOT = true
speaks_of_got G+A = true
speaks_of_got G+GOT+A-P = true
speaks_of_got GOT+A-P = true
speaks_of_got GT+GOT+A-P = true
speaks_of_got _ = false

-- What relocations ask for.

-- the target of a relocation: its symbol's name, or the symbol itself where that is LOCAL (as number 0 is), by its
-- object's and its own number
abbrev pub target_of : SymbolOf → TargetRow
target_of s = cond (is_local s) (OfLocal s.object s.number) (OfName s.name)

-- a slot for the value or the thread offset of a target
pub record Request : Type 0 where
  pub kind : SlotKind
  pub target : TargetRow

abbrev pub request_of : Relocation → Option Request
request_of r =
    option_map (λ kind. record { kind = kind; target = target_of r.symbol })
    (option_and_then (λ k. slot_kind_of k.formula) (relocation_kind r))

-- the requests of the kept relocations, in load order
abbrev pub requests : List LoadedObject → List Request
requests objects = filter_map request_of (relocations objects)

abbrev pub same_kind : SlotKind → SlotKind → Bool
same_kind slot.Value slot.Value = true
same_kind slot.Value slot.Thread = false
same_kind slot.Thread slot.Value = false
same_kind slot.Thread slot.Thread = true

abbrev pub same_target : TargetRow → TargetRow → Bool
same_target (OfName a) (OfName b) = bytes_eq a b
same_target (OfName a) (OfLocal p k) = false
same_target (OfLocal o j) (OfName b) = false
same_target (OfLocal o j) (OfLocal p k) = o == p && j == k

abbrev pub same_request : Request → Request → Bool
same_request r s = same_kind r.kind s.kind && same_target r.target s.target

-- each request once, at its first place
abbrev pub each_once : List Request → List Request
each_once [] = []
each_once (r ∷ rs) = r ∷ filter (λ s. not (same_request r s)) (each_once rs)

-- the slots that the linker hands out, in its order
abbrev pub slots : List LoadedObject → List Request
slots objects = each_once (requests objects)

-- Whether there is a GOT, and its size.

-- the symbol's name is the GOT's, and no object defines it
abbrev pub names_got : List LoadedObject → SymbolOf → Bool
names_got objects s = not (is_local s) && (bytes_eq s.name got_name && is_none (chosen objects s.name))

-- a relocation asks for a GOT by its formula, or by the name
abbrev pub asks_for_got : List LoadedObject → Relocation → Bool
asks_for_got objects r =
    option_map_or (λ k. speaks_of_got k.formula) (relocation_kind r) false || names_got objects r.symbol

-- there is a GOT where a kept relocation asks for it
abbrev pub has_got : List LoadedObject → Bool
has_got objects = list_any (asks_for_got objects) (relocations objects)

-- the size in bytes of a GOT of n slots: a first word, and the slots, of 8 bytes each
abbrev pub size_with : ℕ → ℕ
size_with n = 8 + 8 * n

-- the size of the linker's own, 0 where there is none
abbrev pub got_size : List LoadedObject → ℕ
got_size objects = cond (has_got objects) (size_with (length (slots objects))) 0

-- What the GOT holds.

-- what a target means: what its name does; or the LOCAL symbol itself, where an object has one of this number
abbrev pub local_meaning : List LoadedObject → ℕ → ℕ → Option Meaning
local_meaning objects object number =
    option_and_then (λ o. definition_of objects (symbol_at object o number)) (slice_get objects object)

abbrev pub target_meaning : List LoadedObject → TargetRow → Option Meaning
target_meaning objects (OfName name) = meaning objects name
target_meaning objects (OfLocal object number) = local_meaning objects object number

-- the value of a target, 0 where it means nothing; and that of a slot: the target's, or its offset from the thread
-- pointer, modulo 2 ^ 64
abbrev pub target_value : List LoadedObject → Where → TargetRow → ℕ
target_value objects w target = unwrap_or (option_map (meaning_value w) (target_meaning objects target)) 0

abbrev pub slot_value : List LoadedObject → Where → SlotKind → TargetRow → ℕ
slot_value objects w slot.Value target = target_value objects w target % 2 ^ 64
slot_value objects w slot.Thread target = modulo_64 (thread_offset (block_in w) (target_value objects w target))

abbrev pub slot_bytes : List LoadedObject → Where → SlotRow → List ℕ
slot_bytes objects w row = le_bytes 8 (slot_value objects w row.kind row.target)

-- the bytes of the GOT: a first word of zeros, then the slots
abbrev pub got_bytes : List LoadedObject → Where → List ℕ
got_bytes objects w = replicate 8 0 ++ flat_map (slot_bytes objects w) w.slots

-- Where a relocation's slot is.

abbrev pub row_request : SlotRow → Request
row_request row = record { kind = row.kind; target = row.target }

abbrev pub is_slot_of : Request → SlotRow → Bool
is_slot_of q row = same_request q (row_request row)

-- the address of the slot that a request asks for, 0 where there is none
abbrev pub requested_address : List SlotRow → Request → ℕ
requested_address rows q = option_map_or (λ row. row.address) (find (is_slot_of q) rows) 0

-- the address of the slot that a relocation asks for
abbrev pub slot_address : List SlotRow → Relocation → ℕ
slot_address rows r = option_map_or (requested_address rows) (request_of r) 0
