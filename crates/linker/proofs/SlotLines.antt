-- The lines of the GOT and of its slots are the own ones.
use Rattle.std.proofs.Common.{◌≡◌, ℕ, ◌+◌, ◌*◌, ◌≤◌, ◌^◌, Bool, true, false, cond, List, [], length, refl, sym, ap, arith}
use Rattle.std.specs.Prelude.{Option, Some, None, option_map}
use Rattle.std.proofs.lemmas.Option.{none-some, same_Some}
use Rattle.elf_model.specs.Link.Loading.{LoadedObject}
use Rattle.elf_model.specs.Own.OwnLayout.{IsNotTooLarge, got_line_of, got_piece, own_address, own_got, own_slots, slots_from}
use Rattle.elf_model.specs.Link.Pieces.{AreLawfulKinds}
use Rattle.elf_model.specs.Link.Slots.{has_got, slots}
use Rattle.elf_model.specs.declared.link_map.GotLine.{GotLine}
use Rattle.own_link.proofs.OwnSlots.{no_slots, slots_end}

-- the address of a GOT that is there, or not
abbrev address_if : GotLine → Bool → Option ℕ
address_if line b = option_map (λ g. g.address) (cond b (Some line) None)

module _ (base : ℕ) (objects : List LoadedObject) where
  abbrev got_address : Option ℕ
  got_address = option_map (λ g. g.address) (own_got base objects)

  pub got_stands : (a : ℕ) → got_address ≡ Some a → own_address base objects (got_piece objects) ≡ a
  got_stands a is = by (has_got objects) is
    where
      by : (b : Bool) → address_if (got_line_of base objects) b ≡ Some a → own_address base objects (got_piece objects) ≡ a
      by true e = same_Some (own_address base objects (got_piece objects)) a e
      by false e = absurd (none-some a e)

  pub slots_low : AreLawfulKinds objects → IsNotTooLarge base objects → (a : ℕ) → got_address ≡ Some a → a + 8 * length (slots objects) ≤ 2 ^ 46
  slots_low kinds fits a is =
      let end = slots_end base objects kinds fits in
      let at = got_stands a is in
      omega (arith, end, at)

  pub slots_some : (a : ℕ) → got_address ≡ Some a → slots_from (a + 8) (slots objects) ≡ own_slots base objects
  slots_some a is = ap (λ n. slots_from (n + 8) (slots objects)) (sym (got_stands a is))

  pub slots_none : got_address ≡ None → [] ≡ own_slots base objects
  slots_none is = by (has_got objects) refl is
    where
      by : (b : Bool) → has_got objects ≡ b → address_if (got_line_of base objects) b ≡ None → [] ≡ own_slots base objects
      by true there e = absurd (none-some (own_address base objects (got_piece objects)) (sym e))
      by false none e =
          ap (slots_from (own_address base objects (got_piece objects) + 8)) (sym (no_slots objects none))
