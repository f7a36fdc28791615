-- Places that don't hold the input's bytes.
use Rattle.std.proofs.Common.{◌≡◌, ◌∙◌, ℕ, ◌<◌, inl, inr, Bool, true, false, List, sym}
use Rattle.std.specs.Prelude.{◌↔◌, Any, IsTrue}
use Rattle.std.proofs.lemmas.Bool.{false≢true}
use Rattle.elf_model.specs.declared.thing.Thing.{Thing}
use Rattle.judge_model.specs.Rewrites.{Instruction, rewritings}
use Rattle.field_judge.specs.Given.{Given}
use Rattle.field_judge.specs.Rewritten.{IsPlaceRight, IsRewrittenIn, IsUnchangedIn}

module _ (image : List ℕ) (things : List Thing) (g : Given) (type front : ℕ) (code : Bool) (i : Instruction) where
  pub neither : (IsUnchangedIn image things g type front i → ⊥) → code ≡ false → IsPlaceRight image things g type front code i → ⊥
  neither never other (inl same) = never same
  neither never other (inr row) = false≢true (sym other ∙ row.code_is)

  pub row_alone :
      (b : Bool) → 0 < front → code ≡ true → (IsUnchangedIn image things g type front i → ⊥) →
      IsTrue b ↔ Any (IsRewrittenIn image things g type front i) rewritings → IsTrue b ↔ IsPlaceRight image things g type front code i
  row_alone b told is never both = (λ t. inr (record { told = told; code_is = is; some = both.0 t }), by)
    where
      by : IsPlaceRight image things g type front code i → IsTrue b
      by (inl same) = absurd (never same)
      by (inr row) = both.1 row.some
