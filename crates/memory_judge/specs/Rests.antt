-- The bytes of a section beside its fields.
use Rattle.std.specs.Prelude.{◌≡◌, ℕ, ◌+◌, ◌<◌, ◌≤◌, List, All, Some, slice_index}
use Rattle.elf_model.specs.Image.RightLink.{byte_at}
use Rattle.memory_judge.specs.declared.rests.FieldSpan.{FieldSpan}

-- two runs are equal from one byte on and below another
abbrev pub AreEqual : List ℕ → List ℕ → ℕ → ℕ → Type 0
AreEqual a b from to = (k : ℕ) → from ≤ k → k < to → slice_index a k ≡ slice_index b k

-- byte k of a section lies in a field
abbrev pub IsIn : ℕ → FieldSpan → Type 0
IsIn k s = (s.at ≤ k) × (k < s.at + s.width)

-- no field has it
abbrev pub IsBeside : List FieldSpan → ℕ → Type 0
IsBeside spans k = All (λ s. ¬ IsIn k s) spans

-- two runs are equal from one byte on and below another where no field is
abbrev pub IsRestFrom : List ℕ → List ℕ → List FieldSpan → ℕ → ℕ → Type 0
IsRestFrom held bytes spans from size =
    (k : ℕ) → from ≤ k → k < size → IsBeside spans k → slice_index held k ≡ slice_index bytes k

-- memory holds the bytes of a section where no field is
abbrev pub HoldsBetween : List ℕ → ℕ → ℕ → List ℕ → List FieldSpan → Type 0
HoldsBetween image at size bytes spans =
    (k : ℕ) → k < size → IsBeside spans k → byte_at image (at + k) ≡ Some (slice_index bytes k)
