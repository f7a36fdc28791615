-- Where slots stand in the GOT.
use Rattle.std.proofs.Common.{◌≡◌, ℕ, suc, ◌+◌, ◌-◌, ◌*◌, ◌%◌, ◌^◌, nat_lt, Bool, true, false, not, cond, List, [], ◌∷◌, Option, Some, None, length, refl, sym, ap, ◌∙◌, arith}
use Rattle.std.specs.Prelude.{find}
use Rattle.std.specs.List.{position_or_len}
use Rattle.std.specs.Option.{option_map_or}
use Rattle.std.proofs.Math.Nat.{mod-add-mod}
use Rattle.std.proofs.lemmas.Bool.{false≢true}
use Rattle.elf_model.specs.Link.Loading.{LoadedObject}
use Rattle.elf_model.specs.Image.MapRecord.{SlotRow}
use Rattle.elf_model.specs.Own.OwnLayout.{got_line_of, got_piece, own_address, own_got, own_slots, slot_at, slots_from}
use Rattle.elf_model.specs.Link.Placement.{got_start}
use Rattle.elf_model.specs.Link.Relocation.{Relocation}
use Rattle.elf_model.specs.Link.Slots.{Request, has_got, is_slot_of, request_of, requested_address, same_request, slot_address, slots}
use Rattle.elf_model.proofs.NoSlots.{no_slots}
use Rattle.got_tls.specs.Asking.{offset_of}

-- 8 behind 8 for each slot before it, modulo 2 ^ 64
pub wrapped : (i : ℕ) → (i * 8 % 2 ^ 64 + 8) % 2 ^ 64 ≡ (8 + 8 * i) % 2 ^ 64
wrapped i = mod-add-mod (i * 8) (2 ^ 64) 8 ∙ ap (λ (n : ℕ). n % 2 ^ 64) (omega arith)

-- the address of the slot of a request, among slots one behind the other
first : Request → List Request → ℕ
first q qs = position_or_len (same_request q) qs

here : (a l : ℕ) → a ≡ cond (nat_lt 0 (suc l)) (a + 8 * 0) 0
here a l = grind arith

one_more : (a n l : ℕ) → cond (nat_lt n l) (a + 8 + 8 * n) 0 ≡ cond (nat_lt (1 + n) (suc l)) (a + 8 * (1 + n)) 0
one_more a n l = grind arith

found_at : (q : Request) (a : ℕ) (qs : List Request) → requested_address (slots_from a qs) q ≡ cond (nat_lt (first q qs) (length qs)) (a + 8 * first q qs) 0
unfolding first
found_at q a [] = refl
found_at q a (s ∷ qs) = by (same_request q s) (found_at q (a + 8) qs)
  where
    n : ℕ
    n = position_or_len (same_request q) qs

    by :
        (b : Bool) → requested_address (slots_from (a + 8) qs) q ≡ cond (nat_lt n (length qs)) (a + 8 + 8 * n) 0 →
        option_map_or (λ (row : SlotRow). row.address) (cond b (Some (slot_at a s)) (find (is_slot_of q) (slots_from (a + 8) qs))) 0
        ≡ cond (nat_lt (cond (not b) (1 + n) 0) (suc (length qs))) (a + 8 * cond (not b) (1 + n) 0) 0
    by true rest = here a (length qs)
    by false rest = rest ∙ one_more a n (length qs)

behind : (a n : ℕ) → (a + 8 + 8 * n) - a ≡ 8 + 8 * n
behind a n = omega arith

-- how far behind the GOT's beginning the slot of a request stands in the own layout
module _ (L : List LoadedObject) (base : ℕ) where
  at : ℕ
  at = own_address base L (got_piece L)

  requested : (q : Request) → requested_address (own_slots base L) q - got_start (own_got base L) ≡ offset_of (slots L) q
  unfolding first at
  requested q = ap (λ (x : ℕ). x - got_start (own_got base L)) (found_at q (at + 8) (slots L)) ∙ by (nat_lt n (length (slots L))) refl (has_got L) refl
    where
      n : ℕ
      n = first q (slots L)

      by :
          (b : Bool) → nat_lt n (length (slots L)) ≡ b → (g : Bool) → has_got L ≡ g →
          cond b (at + 8 + 8 * n) 0 - got_start (own_got base L) ≡ option_map_or (λ i. 8 + 8 * i) (cond b (Some n) None) 0
      by true e true f =
          ap (λ (t : Bool). (at + 8 + 8 * n) - got_start (cond t (Some (got_line_of base L)) None)) f ∙ behind at n
      by true e false f = absurd (false≢true (sym (ap (λ (qs : List Request). nat_lt (first q qs) (length qs)) (no_slots L f)) ∙ e))
      by false e g f = omega arith

  pub own_offset : (r : Relocation) → slot_address (own_slots base L) r - got_start (own_got base L) ≡ option_map_or (offset_of (slots L)) (request_of r) 0
  own_offset r = by (request_of r)
    where
      by : (o : Option Request) → option_map_or (requested_address (own_slots base L)) o 0 - got_start (own_got base L) ≡ option_map_or (offset_of (slots L)) o 0
      by None = omega arith
      by (Some q) = requested q
