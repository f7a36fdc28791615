-- What is known of a link whose gaps are judged.
use Rattle.std.specs.Prelude.{◌≡◌, ◌↔◌, ◌-◌, ◌<◌, ℕ, List, All, AllPairs, Any, Contains, length}
use Rattle.elf_model.specs.Image.MemoryImage.{loads}
use Rattle.elf_model.specs.declared.records.ProgramHeader.{ProgramHeader}
use Rattle.judge_model.specs.Fill.{IsGap, IsGapRight, IsRunThrough}
use Rattle.judge_model.specs.Links.{ForeignLink}
use Rattle.judge_model.specs.Memory.{Holds}
use Rattle.memory_judge.specs.Spans.{IsInSpan, IsSpanBefore}
use Rattle.memory_judge.specs.declared.spans.Span.{Span}

-- the gaps of its runs of code, as spans that rise apart
pub record AreRunGaps (l : ForeignLink) (runs : List Span) : Type 0 where
  pub some : All (λ s. s.from < s.to) runs
  pub rising : AllPairs IsSpanBefore runs
  pub gaps_are : (a : ℕ) → Any (IsInSpan a) runs ↔ IsRunThrough l a

-- each gap of it has fill
pub record AreGapsFilled (l : ForeignLink) : Type 0 where
  pub gaps :
      (h : ProgramHeader) (from to : ℕ) → Contains (loads l.image) h → IsGap l h from to
      → (bytes : List ℕ) × (length bytes ≡ to - from) × Holds l.image from bytes × IsGapRight l h from bytes
