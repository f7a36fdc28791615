-- What all rows have: one of four values, of four bytes and without a slot; no nop behind, or one. And a row's bytes at the
-- addresses that are given.
use Rattle.std.proofs.Common.{◌≡◌, ◌∙◌, ℕ, ◌+◌, ◌-◌, ◌⊎◌, inl, inr, Bool, true, false, cond, List, [], ◌∷◌, length, None, Some, ap, refl, sym, subst, arith}
use Rattle.std.specs.Prelude.{◌↔◌, IsTrue, ℤ}
use Rattle.elf_model.specs.Image.RightLink.{byte_at}
use Rattle.elf_model.specs.Link.Relocation.{Kind}
use Rattle.elf_model.specs.Link.Slots.{slot_kind_of}
use Rattle.elf_model.specs.declared.thing.Thing.{Thing}
use Rattle.judge_model.specs.Memory.{Holds}
use Rattle.judge_model.specs.Rewrites.{Instruction, Put, from_end, is_wide, rewrite_of, signed_address, thread_offset, unsigned_address}
use Rattle.judge_model.specs.declared.rewriting.Rewriting.{Rewriting}
use Rattle.judge_model.specs.declared.rewriting.Rewriting.TheVariants.{MovToLea, MovToImmediate, TestToImmediate, OperationToImmediate, CallWithPrefix, CallBehindNop, CallBeforeNop, JumpBehindNop, JumpBeforeNop, ThreadMovToImmediate, ThreadAddToImmediate, ThreadAddToLea}
use Rattle.field_judge.proofs.SomeRow.{none_held, one_held, one_read, place_is}
use Rattle.field_judge.specs.Given.{Given, IsRightIn}
use Rattle.field_judge.specs.Kinds.{IsWidth, TellsSlots}
use Rattle.field_judge.specs.Rewritten.{IsRowFieldRight, rewritten_given}

abbrev IsOfFour : Put → Type 0
IsOfFour p = (p ≡ from_end) ⊎ ((p ≡ signed_address) ⊎ ((p ≡ unsigned_address) ⊎ (p ≡ thread_offset)))

address_of_four : (wide : Bool) → IsOfFour (cond wide signed_address unsigned_address)
address_of_four true = inr (inl refl)
address_of_four false = inr (inr (inl refl))

of_four : (w : Rewriting) (i : Instruction) → IsOfFour ((rewrite_of w).put i)
of_four MovToLea i = inl refl
of_four MovToImmediate i = address_of_four (is_wide i.rex)
of_four TestToImmediate i = address_of_four (is_wide i.rex)
of_four OperationToImmediate i = address_of_four (is_wide i.rex)
of_four CallWithPrefix i = inl refl
of_four CallBehindNop i = inl refl
of_four CallBeforeNop i = inl refl
of_four JumpBehindNop i = inl refl
of_four JumpBeforeNop i = inl refl
of_four ThreadMovToImmediate i = inr (inr (inr refl))
of_four ThreadAddToImmediate i = inr (inr (inr refl))
of_four ThreadAddToLea i = inr (inr (inr refl))

four_width : (p : Put) → IsOfFour p → p.kind.width ≡ 4
four_width p (inl is) = ap (λ (q : Put). q.kind.width) is
four_width p (inr (inl is)) = ap (λ (q : Put). q.kind.width) is
four_width p (inr (inr (inl is))) = ap (λ (q : Put). q.kind.width) is
four_width p (inr (inr (inr is))) = ap (λ (q : Put). q.kind.width) is

four_free : (p : Put) → IsOfFour p → slot_kind_of p.kind.formula ≡ None
four_free p (inl is) = ap (λ (q : Put). slot_kind_of q.kind.formula) is
four_free p (inr (inl is)) = ap (λ (q : Put). slot_kind_of q.kind.formula) is
four_free p (inr (inr (inl is))) = ap (λ (q : Put). slot_kind_of q.kind.formula) is
four_free p (inr (inr (inr is))) = ap (λ (q : Put). slot_kind_of q.kind.formula) is

pub no_slot : (w : Rewriting) (i : Instruction) → slot_kind_of ((rewrite_of w).put i).kind.formula ≡ None
no_slot w i = four_free ((rewrite_of w).put i) (of_four w i)

pub put_width : (w : Rewriting) (i : Instruction) (k : Kind) → k ≡ ((rewrite_of w).put i).kind → IsWidth k.width
put_width w i k is = inr (inr (inl (ap (λ (j : Kind). j.width) is ∙ four_width ((rewrite_of w).put i) (of_four w i))))

pub put_tells : (w : Rewriting) (i : Instruction) (k : Kind) → k ≡ ((rewrite_of w).put i).kind → TellsSlots k
put_tells w i k is = record {
  whole = λ v slot low fits. absurd (slot (ap (λ (j : Kind). slot_kind_of j.formula) is ∙ no_slot w i));
}

-- a row's field
pub row_field :
    (image : List ℕ) (things : List Thing) (g : Given) (i : Instruction) (w : Rewriting) (p : Put) (k : Kind) (n : ℕ) (a : ℤ) (b : Bool) →
    p ≡ (rewrite_of w).put i → n ≡ length (rewrite_of w).behind → k ≡ p.kind → a ≡ p.addend →
    IsTrue b ↔ IsRightIn image things (rewritten_given g n a) k → IsTrue b ↔ IsRowFieldRight image things g i w
row_field image things g i w p k n a b put_is count kind_is addend_is both =
    subst (λ (q : Put). IsTrue b ↔ IsRightIn image things (rewritten_given g (length (rewrite_of w).behind) q.addend) q.kind) put_is
    (subst (λ (m : ℕ). IsTrue b ↔ IsRightIn image things (rewritten_given g m p.addend) p.kind) count
    (subst (λ (x : ℤ). IsTrue b ↔ IsRightIn image things (rewritten_given g n x) p.kind) addend_is
    (subst (λ (j : Kind). IsTrue b ↔ IsRightIn image things (rewritten_given g n a) j) kind_is both)))

-- the nops behind a row's field
nothing : (xs : List ℕ) → length xs ≡ 0 → xs ≡ []
nothing [] none = refl
nothing (x ∷ xs) none = absurd (omega (arith, none))

pub none_behind : (image : List ℕ) (at : ℕ) (w : Rewriting) → length (rewrite_of w).behind ≡ 0 → Holds image at (rewrite_of w).behind
none_behind image at w none = subst (Holds image at) (sym (nothing (rewrite_of w).behind none)) (none_held image at)

one_nop : (w : Rewriting) → (length (rewrite_of w).behind ≡ 0 → ⊥) → (rewrite_of w).behind ≡ 0x90 ∷ []
one_nop CallBeforeNop some = refl
one_nop JumpBeforeNop some = refl
one_nop MovToLea some = absurd (some refl)
one_nop MovToImmediate some = absurd (some refl)
one_nop TestToImmediate some = absurd (some refl)
one_nop OperationToImmediate some = absurd (some refl)
one_nop CallWithPrefix some = absurd (some refl)
one_nop CallBehindNop some = absurd (some refl)
one_nop JumpBehindNop some = absurd (some refl)
one_nop ThreadMovToImmediate some = absurd (some refl)
one_nop ThreadAddToImmediate some = absurd (some refl)
one_nop ThreadAddToLea some = absurd (some refl)

pub one_behind :
    (image : List ℕ) (at : ℕ) (w : Rewriting) (b : Bool) → (length (rewrite_of w).behind ≡ 0 → ⊥) → IsTrue b ↔ (byte_at image at ≡ Some 0x90) →
    IsTrue b ↔ Holds image at (rewrite_of w).behind
one_behind image at w b some both =
    subst (λ (xs : List ℕ). IsTrue b ↔ Holds image at xs) (sym (one_nop w some))
    (λ t. one_held image at 0x90 (both.0 t), λ h. both.1 (one_read image at 0x90 h))

pub front_at :
    (image : List ℕ) (a o g p n m : ℕ) (held wanted : List ℕ) (b : Bool) → a ≡ g → o ≡ p → m ≡ o - n → held ≡ wanted →
    IsTrue b ↔ Holds image (a + m) held → IsTrue b ↔ Holds image (g + (p - n)) wanted
front_at image a o g p n m held wanted b at offset is same both =
    subst (λ (xs : List ℕ). IsTrue b ↔ Holds image (g + (p - n)) xs) same
    (subst (λ (x : ℕ). IsTrue b ↔ Holds image x held) (place_is a o g p n m at offset is) both)

pub behind_at :
    (image : List ℕ) (a o g p n : ℕ) (w : Rewriting) (m : ℕ) (b : Bool) → a ≡ g → o ≡ p → m ≡ o - n → n ≡ length (rewrite_of w).behind →
    IsTrue b ↔ Holds image (a + m + 4) (rewrite_of w).behind → IsTrue b ↔ Holds image (g + (p - length (rewrite_of w).behind) + 4) (rewrite_of w).behind
behind_at image a o g p n w m b at offset is count both =
    subst (λ (k : ℕ). IsTrue b ↔ Holds image (g + (p - k) + 4) (rewrite_of w).behind) count
    (subst (λ (x : ℕ). IsTrue b ↔ Holds image (x + 4) (rewrite_of w).behind) (place_is a o g p n m at offset is) both)
