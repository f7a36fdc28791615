-- The order of the records of a list of call frames, and the bytes that fields may have in one.
use Rattle.std.specs.Prelude.{◌+◌, ◌≤◌, ℕ, List, All, AllPairs}
use Rattle.judge_model.specs.declared.frame_record.FrameRecord.{FrameRecord}

-- a record has its length and its number, and lies in its list
pub record IsPlaced (len : ℕ) (r : FrameRecord) : Type 0 where
  pub large : 8 ≤ r.size
  pub inside : r.offset + r.size ≤ len

-- a record ends where another one begins, or before
abbrev pub IsRecordBefore : FrameRecord → FrameRecord → Type 0
IsRecordBefore r s = r.offset + r.size ≤ s.offset

pub record AreInOrder (len : ℕ) (rs : List FrameRecord) : Type 0 where
  pub placed : All (IsPlaced len) rs
  pub rising : AllPairs IsRecordBefore rs

-- so many bytes at an offset lie in a record, behind its length and its number
abbrev pub HasField : ℕ → ℕ → FrameRecord → Type 0
HasField at width f = (f.offset + 8 ≤ at) × (at + width ≤ f.offset + f.size)
