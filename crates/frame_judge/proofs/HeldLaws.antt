-- Fields of call frames in the linker's list.
use Rattle.std.proofs.Common.{◌≡◌, ◌^◌, ℕ, List, Option, None, Some, inl, inr, ap, subst, sym, ◌∙◌, arith}
use Rattle.std.specs.Prelude.{◌<◌, ◌≤◌, ◌+◌, IsSomeAnd, length}
use Rattle.std.proofs.lemmas.Option.{none-some}
use Rattle.byteview.specs.Numbers.{le_bytes}
use Rattle.byteview.proofs.NumberLaws.{length-le_bytes}
use Rattle.elf_model.specs.Link.Relocation.{Kind}
use Rattle.elf_model.specs.Link.Slots.{slot_kind_of}
use Rattle.elf_model.specs.declared.thing.Thing.{Thing}
use Rattle.field_judge.specs.Given.{Given, HoldsPlainIn, HoldsValueIn, value_in}
use Rattle.field_judge.specs.Kinds.{IsWidth}
use Rattle.judge_model.specs.Headers.{IsProgram}
use Rattle.memory_judge.proofs.NumberBytes.{nothing_high}
use Rattle.frame_judge.specs.Held.{IsHeldBy, moved_to}

some_width : (w : ℕ) → IsWidth w → 0 < w
some_width w (inl e) = omega (arith, e)
some_width w (inr (inl e)) = omega (arith, e)
some_width w (inr (inr (inl e))) = omega (arith, e)
some_width w (inr (inr (inr e))) = omega (arith, e)

-- memory has nothing at a high address
held_value :
    {image : List ℕ} → IsProgram image → (g : Given) (k : Kind) (at : ℕ) → IsWidth k.width → 2 ^ 64 ≤ at →
    IsSomeAnd g.value (λ v. HoldsValueIn image (moved_to g at) k v 0) → ⊥
held_value {image} program g k at width high h = by g.value h
  where
    by : (o : Option ℕ) → IsSomeAnd o (λ v. HoldsValueIn image (moved_to g at) k v 0) → ⊥
    by None never = never
    by (Some v) held =
        let some = some_width k.width width in
        let n = value_in image (moved_to g at) k v 0 in
        let first = held.holds 0 (subst (λ w. 0 < w) (sym (length-le_bytes k.width n)) some) in
        none-some _ (sym (nothing_high image (at + 0 + 0) program (omega (arith, high))) ∙ first)

pub held_low :
    {image : List ℕ} → IsProgram image → (taken : List Thing) (g : Given) (k : Kind) (at : ℕ) → IsWidth k.width → 2 ^ 64 ≤ at →
    IsHeldBy image taken (moved_to g at) k → ⊥
held_low {image} program taken g k at width high h =
    held_value program g k at width high (subst (HoldsPlainIn image taken (moved_to g at) k) h.free h.right.2)
