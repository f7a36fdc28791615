-- The lines of the own slots: they ascend, lie within the addresses, and fit their text where their targets do.
use Rattle.std.proofs.Common.{◌≡◌, ℕ, zero, suc, ◌+◌, ◌*◌, ◌<◌, ◌≤◌, ◌^◌, Bool, true, false, List, [], ◌∷◌, length, get_or, refl, ◌∙◌, ap, arith}
use Rattle.std.specs.Prelude.{All, Option, Some, None, find, option_map, unwrap_or}
use Rattle.std.proofs.lemmas.List.Elements.{All-contains, All-cons, All-head, All-nil, All-tail}
use Rattle.elf_model.specs.Link.Loading.{LoadedObject}
use Rattle.elf_model.specs.Image.MapRecord.{SlotRow}
use Rattle.elf_model.specs.Image.MapText.{Ascends, FitsSlot, FitsTarget, SlotBefore}
use Rattle.elf_model.specs.Own.OwnLayout.{IsNotTooLarge, got_piece, own_address, own_placed, placed_end, slot_at, slots_from}
use Rattle.elf_model.specs.Link.Pieces.{AreLawfulKinds}
use Rattle.elf_model.specs.Link.Placement.{Placed, is_of_section}
use Rattle.elf_model.specs.Link.Slots.{Request, has_got, slots}
use Rattle.elf_model.proofs.Finding.{find-found}
pub use Rattle.elf_model.proofs.NoSlots.{no_slots}
use Rattle.elf_model.proofs.Places.{at_own_address, got_listed}
use Rattle.own_link.proofs.OwnGot.{got_size_is, got_there}

-- The slots stand one behind the other.
slot_address_is :
    (a : ℕ) (qs : List Request) (k : ℕ) (d : SlotRow) → k < length (slots_from a qs) → (get_or (slots_from a qs) k d).address ≡ a + 8 * k
slot_address_is a [] k d within = absurd (omega (arith, within))
slot_address_is a (q ∷ qs) zero d within = omega arith
slot_address_is a (q ∷ qs) (suc k) d within = slot_address_is (a + 8) qs k d (omega (arith, within)) ∙ omega arith

pub slots_ascend : (a : ℕ) (qs : List Request) → Ascends SlotBefore (slots_from a qs)
slots_ascend a qs k d within =
    let x = slot_address_is a qs k d (omega (arith, within)) in
    let y = slot_address_is a qs (k + 1) d within in
    omega (arith, x, y)

-- They fit where their targets do, and none is past the addresses.
pub slots_fit : (a : ℕ) (qs : List Request) → a + 8 * length qs < 2 ^ 64 → All (λ q. FitsTarget q.target) qs → All FitsSlot (slots_from a qs)
slots_fit a [] low targets = All-nil FitsSlot
slots_fit a (q ∷ qs) low targets =
    All-cons FitsSlot (slot_at a q) (slots_from (a + 8) qs)
    (record { address = omega (arith, low); target = All-head (λ (r : Request). FitsTarget r.target) q qs targets })
    (slots_fit (a + 8) qs (omega (arith, low)) (All-tail (λ (r : Request). FitsTarget r.target) q qs targets))

module _ (base : ℕ) (objects : List LoadedObject) (kinds : AreLawfulKinds objects) (fits : IsNotTooLarge base objects) where
  got_low : own_address base objects (got_piece objects) ≤ 2 ^ 46
  got_low = by (find (is_of_section (got_piece objects).object 0) (own_placed base objects)) refl
    where
      by :
          (o : Option Placed) → find (is_of_section (got_piece objects).object 0) (own_placed base objects) ≡ o →
          unwrap_or (option_map (λ (q : Placed). q.at) o) 0 ≤ 2 ^ 46
      by None e = omega arith
      by (Some q) e =
          let end : placed_end q ≤ 2 ^ 46 =
          All-contains (λ (r : Placed). placed_end r ≤ 2 ^ 46) (own_placed base objects) q fits.ends
          (find-found (is_of_section (got_piece objects).object 0) (own_placed base objects) q e).there in
          omega (arith, end)

  pub slots_end : (own_address base objects (got_piece objects) + 8) + 8 * length (slots objects) ≤ 2 ^ 46 + 8
  slots_end = by (has_got objects) refl
    where
      by : (b : Bool) → has_got objects ≡ b → (own_address base objects (got_piece objects) + 8) + 8 * length (slots objects) ≤ 2 ^ 46 + 8
      by false none =
          let e : length (slots objects) ≡ 0 = ap length (no_slots objects none) in
          let low = got_low in
          omega (arith, e, low)
      by true there =
          let end : placed_end (at_own_address base objects (got_piece objects)) ≤ 2 ^ 46 =
          All-contains (λ (r : Placed). placed_end r ≤ 2 ^ 46) (own_placed base objects) (at_own_address base objects (got_piece objects)) fits.ends
          (got_listed base objects kinds (got_piece objects) (got_there objects there)) in
          let size = got_size_is objects there in
          omega (arith, end, size)
