-- What one field asks, given what its relocation's symbol means.
use Rattle.std.specs.Prelude.{◌≡◌, ℕ, ℤ, ◌+◌, ◌*◌, ◌%◌, ◌^◌, Bool, true, List, Option, None, Some, IsSomeAnd, is_some, option_map, unwrap_or}
use Rattle.std.specs.List.{slice_get}
use Rattle.byteview.specs.Numbers.{le_bytes}
use Rattle.elf_model.specs.Image.MemoryImage.{thread_blocks}
use Rattle.elf_model.specs.Link.Relocation.{IsInRange, IsMismatch, Kind, modulo_64}
use Rattle.elf_model.specs.Link.Slots.{slot_kind_of}
use Rattle.elf_model.specs.declared.link_map.SlotKind.{SlotKind}
use Rattle.elf_model.specs.declared.link_map.SlotKind.TheVariants as slot
use Rattle.elf_model.specs.declared.thing.Thing.{Thing}
use Rattle.judge_model.specs.Fields.{Letters, needs_got, whole_value}
use Rattle.judge_model.specs.Memory.{Holds}
use Rattle.judge_model.specs.ThreadBlocks.{thread_offset, thread_pointer}
use Rattle.memory_judge.specs.Slots.{IsSlotAmong}
use Rattle.field_judge.specs.declared.fields.Asked.{Asked}

-- the value of the relocation's symbol, where it has one, the addend, the address of its section and the field's place there, the size
-- of the symbol, the address of the GOT, and whether the symbol is in thread-local storage
pub record Given : Type 0 where
  pub value : Option ℕ
  pub addend : ℤ
  pub at : ℕ
  pub offset : ℕ
  pub size : ℕ
  pub got : Option ℕ
  pub thread : Bool

-- the thread pointer of an image
abbrev pub pointer_of : List ℕ → ℕ
pointer_of image = thread_pointer (slice_get (thread_blocks image) 0)

abbrev pub letters_in : List ℕ → Given → ℕ → ℕ → Letters
letters_in image g v at = record {
  s = v;
  a = g.addend;
  p = g.at + g.offset;
  slot = at;
  got = unwrap_or g.got 0;
  z = g.size;
  t = thread_offset image v;
}

abbrev pub value_in : List ℕ → Given → Kind → ℕ → ℕ → ℕ
value_in image g k v at = modulo_64 (whole_value k.formula (letters_in image g v at))

-- a field holds the value of its formula, in range, with the slot at an address
pub record HoldsValueIn (image : List ℕ) (g : Given) (k : Kind) (v at : ℕ) : Type 0 where
  pub fits : IsInRange k.range (8 * k.width) (value_in image g k v at)
  pub holds : Holds image (g.at + g.offset) (le_bytes k.width (value_in image g k v at))

-- what a slot holds
abbrev pub slot_value : List ℕ → SlotKind → ℕ → ℕ
slot_value image slot.Value v = v % 2 ^ 64
slot_value image slot.Thread v = modulo_64 (thread_offset image v)

-- a field has its slot at an address, among things
pub record HasSlotIn (image : List ℕ) (things : List Thing) (g : Given) (k : Kind) (asked : SlotKind) (at : ℕ) : Type 0 where
  pub value : ℕ
  pub means : g.value ≡ Some value
  pub held : HoldsValueIn image g k value at
  pub slot_is : IsSlotAmong image things at (slot_value image asked value)

abbrev pub HoldsPlainIn : List ℕ → List Thing → Given → Kind → Option SlotKind → Type 0
HoldsPlainIn image things g k None = IsSomeAnd g.value (λ v. HoldsValueIn image g k v 0)
HoldsPlainIn image things g k (Some asked) = (at : ℕ) × HasSlotIn image things g k asked at

-- the same of any formula: one without a slot asks for none
pub record AsksSlotAt (image : List ℕ) (things : List Thing) (g : Given) (k : Kind) (at : ℕ) : Type 0 where
  pub asked : SlotKind
  pub asks : slot_kind_of k.formula ≡ Some asked
  pub slot_is : HasSlotIn image things g k asked at

-- the field is right
abbrev pub IsRightIn : List ℕ → List Thing → Given → Kind → Type 0
IsRightIn image things g k =
    (¬ IsMismatch k.formula g.thread)
    × (needs_got k.formula ≡ true → is_some g.got ≡ true)
    × HoldsPlainIn image things g k (slot_kind_of k.formula)

-- the code's terms are what is given, the value modulo 2 ^ 64
pub record IsGiven (image : List ℕ) (a : Asked) (g : Given) : Type 0 where
  pub value : a.value ≡ option_map (λ v. v % 2 ^ 64) g.value
  pub addend : a.addend ≡ g.addend
  pub at : a.at ≡ g.at
  pub offset : a.offset ≡ g.offset
  pub size : a.size ≡ g.size
  pub got : a.got ≡ g.got
  pub thread : a.thread ≡ g.thread
  pub pointer : a.thread_pointer ≡ pointer_of image % 2 ^ 64
