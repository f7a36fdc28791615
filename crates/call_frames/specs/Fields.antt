-- The fields of a section.
use Rattle.std.specs.Prelude.{◌<◌, List, All}
use Rattle.std.specs.List.Sorted.{IsNonDecreasingBy}
use Rattle.memory_judge.specs.declared.rests.FieldSpan.{FieldSpan}

-- a field has at most 255 bytes
pub record IsNarrow (s : FieldSpan) : Type 0 where
  pub narrow : s.width < 256

-- fields by rising places
pub record AreFields (spans : List FieldSpan) : Type 0 where
  pub rising : IsNonDecreasingBy (λ s. s.at) spans
  pub narrow : All IsNarrow spans
