-- A record of call frames and its copy.
use Rattle.std.specs.Prelude.{◌≡◌, ◌+◌, ◌<◌, ◌≤◌, ℕ, List, slice_index}
use Rattle.judge_model.specs.declared.frame_record.FrameRecord.{FrameRecord}
use Rattle.memory_judge.specs.Rests.{IsBeside}
use Rattle.memory_judge.specs.declared.rests.FieldSpan.{FieldSpan}

-- Record t of a list is like record r of a section but for fields: the same behind the length and the number, as far as both go, and 0
-- behind what record r has.
pub record IsAlike (section list : List ℕ) (spans : List FieldSpan) (r t : FrameRecord) : Type 0 where
  pub same :
      (k : ℕ) → 8 ≤ k → k < r.size → k < t.size → IsBeside spans (r.offset + k)
      → slice_index list (t.offset + k) ≡ slice_index section (r.offset + k)
  pub zeros : (k : ℕ) → r.size ≤ k → k < t.size → slice_index list (t.offset + k) ≡ 0

-- two runs, of which one begins at an offset of a section, are equal from one byte on and below another where the section has no field
abbrev pub IsRestAt : List ℕ → List ℕ → List FieldSpan → ℕ → ℕ → ℕ → Type 0
IsRestAt held bytes spans start from size =
    (k : ℕ) → from ≤ k → k < size → IsBeside spans (start + k) → slice_index held k ≡ slice_index bytes k
