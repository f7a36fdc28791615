-- What is known of a run when its first instruction is taken off, and when none is left.
use Rattle.std.proofs.Common.{◌∙◌, ap, arith, refl, subst, sym}
use Rattle.std.specs.Prelude.{◌≡◌, ◌↔◌, ◌<◌, ◌==◌, ℕ, Bool, true, zero, suc, List, [], ◌∷◌, None, Some, All, drop, length, slice_index}
use Rattle.std.proofs.lemmas.Bool.{eqb-true}
use Rattle.std.proofs.lemmas.Option.{none-some, same_Some}
use Rattle.std.proofs.lemmas.List.{get_or_default}
use Rattle.std.proofs.lemmas.List.Elements.{All-head}
use Rattle.judge_model.specs.Fill.{AreNops, AreNopsBy, IsCodeFill, IsCodeFillBy, filler_at, nop_at}

-- nothing begins with no byte, nor with a zero
no_nop : nop_at [] ≡ None
unfolding nop_at
no_nop = refl

no_filler : (bytes : List ℕ) → All (λ b. b ≡ 0) bytes → filler_at bytes ≡ None
unfolding nop_at
no_filler [] all = refl
no_filler (b ∷ bytes) all = let z : b ≡ 0 = All-head (λ (b : ℕ). b ≡ 0) b bytes all in subst (λ (n : ℕ). filler_at (n ∷ bytes) ≡ None) (sym z) refl

pub nops_further : (bytes : List ℕ) (k : ℕ) → nop_at bytes ≡ Some k → AreNops bytes ↔ AreNops (drop k bytes)
nops_further bytes k here = (to, λ r. (suc r.0, (k, here, r.1)))
  where
    to : AreNops bytes → AreNops (drop k bytes)
    to (zero, e) = absurd (none-some k (sym no_nop ∙ ap nop_at (sym e) ∙ here))
    to (suc n, (j, there, rest)) = (n, subst (λ (i : ℕ). AreNopsBy n (drop i bytes)) (same_Some j k (sym there ∙ here)) rest)

pub nops_end : (bytes : List ℕ) → nop_at bytes ≡ None → AreNops bytes ↔ (bytes ≡ [])
nops_end bytes none = (to, λ e. (zero, e))
  where
    to : AreNops bytes → bytes ≡ []
    to (zero, e) = e
    to (suc n, (j, there, rest)) = absurd (none-some j (sym none ∙ there))

pub fill_further : (bytes : List ℕ) (k : ℕ) → filler_at bytes ≡ Some k → IsCodeFill bytes ↔ IsCodeFill (drop k bytes)
fill_further bytes k here = (to, λ r. (suc r.0, (k, here, r.1)))
  where
    to : IsCodeFill bytes → IsCodeFill (drop k bytes)
    to (zero, all) = absurd (none-some k (sym (no_filler bytes all) ∙ here))
    to (suc n, (j, there, rest)) = (n, subst (λ (i : ℕ). IsCodeFillBy n (drop i bytes)) (same_Some j k (sym there ∙ here)) rest)

pub fill_end : (bytes : List ℕ) → filler_at bytes ≡ None → IsCodeFill bytes ↔ All (λ b. b ≡ 0) bytes
fill_end bytes none = (to, λ all. (zero, all))
  where
    to : IsCodeFill bytes → All (λ b. b ≡ 0) bytes
    to (zero, all) = all
    to (suc n, (j, there, rest)) = absurd (none-some j (sym none ∙ there))

-- bytes without length are none; those that read as zeros are zeros
pub empty : (bytes : List ℕ) (b : Bool) → b ≡ (length bytes == 0) → (b ≡ true) ↔ (bytes ≡ [])
empty [] b is = (λ yes. refl, λ e. is)
empty (x ∷ xs) b is = (
  λ yes. let n = eqb-true (length (x ∷ xs)) 0 (sym is ∙ yes) in absurd (omega (arith, n)),
  λ e. let n : length (x ∷ xs) ≡ 0 = ap length e in absurd (omega (arith, n)),
)

pub zeros : (bytes : List ℕ) → ((k : ℕ) → k < length bytes → slice_index bytes k ≡ 0) ↔ All (λ b. b ≡ 0) bytes
zeros bytes = (λ each k d below. get_or_default bytes k d 0 below ∙ each k below, λ all k below. all k 0 below)
