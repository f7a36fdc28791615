-- A run of memory holds what its bytes are.
use Rattle.std.proofs.Common.{◌≡◌, ℕ, ◌+◌, ◌<◌, ◌∙◌, Bool, List, ap, sym}
use Rattle.std.specs.Prelude.{IsTrue, Some, slice_index}
use Rattle.std.proofs.lemmas.Option.{same_Some}
use Rattle.elf_model.specs.Image.RightLink.{byte_at}
use Rattle.loader_model.specs.Memory.{IsRun}

pub held_by_run :
    (image : List ℕ) (at len : ℕ) (bytes : List ℕ) (zeros : ℕ) (wanted : ℕ → ℕ) (b : Bool) → IsRun image at len bytes zeros →
    (IsTrue b → ((k : ℕ) → k < len → slice_index bytes k ≡ wanted k)) × (((k : ℕ) → k < len → slice_index bytes k ≡ wanted k) → IsTrue b) →
    (IsTrue b → ((k : ℕ) → k < len → byte_at image (at + k) ≡ Some (wanted k)))
    × (((k : ℕ) → k < len → byte_at image (at + k) ≡ Some (wanted k)) → IsTrue b)
held_by_run image at len bytes zeros wanted b run same = (
  λ e k below. run.same k below ∙ ap Some (same.0 e k below),
  λ held. same.1 (λ k below. same_Some (slice_index bytes k) (wanted k) (sym (run.same k below) ∙ held k below)),
)
