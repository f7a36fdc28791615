-- What a gap's bytes may be, and gaps of an image.
use Rattle.std.specs.Prelude.{◌≡◌, ℕ, ◌+◌, ◌-◌, Bool, true, false, List, All, Any, length}
use Rattle.elf_model.specs.declared.records.ProgramHeader.{ProgramHeader}
use Rattle.judge_model.specs.Fill.{AreNops, IsCodeFill, is_executed}
use Rattle.judge_model.specs.Memory.{Holds}
use Rattle.memory_judge.specs.Spans.{IsInSpan}
use Rattle.memory_judge.specs.declared.spans.Span.{Span}
use Rattle.gap_judge.specs.Gaps.{gaps}

-- bytes are fill: where they can be executed, and in the gap of a run of code
pub record IsFill (executed : Bool) (Through : Type 0) (bytes : List ℕ) : Type 0 where
  pub zeros : executed ≡ false → All (λ b. b ≡ 0) bytes
  pub code : executed ≡ true → IsCodeFill bytes
  pub run : Through → AreNops bytes

-- memory of a segment has fill from one address on and below another, given the gaps of runs of code
pub record HoldsFill (image : List ℕ) (runs : List Span) (h : ProgramHeader) (from to : ℕ) : Type 0 where
  pub bytes : List ℕ
  pub long : length bytes ≡ to - from
  pub holds : Holds image from bytes
  pub fill : IsFill (is_executed h) (Any (IsInSpan from) runs) bytes

-- so it does in each of some gaps; and in the gaps that spans leave in it
pub record HoldsFillIn (image : List ℕ) (runs : List Span) (h : ProgramHeader) (g : Span) : Type 0 where
  pub fill : HoldsFill image runs h g.from g.to

pub record IsSegmentFilled (image : List ℕ) (spans runs : List Span) (h : ProgramHeader) : Type 0 where
  pub filled : All (HoldsFillIn image runs h) (gaps h.p_vaddr (h.p_vaddr + h.p_memsz) spans)
