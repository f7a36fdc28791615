-- Records that are found.
use Rattle.std.proofs.Common.{◌≡◌, ◌==◌, ℕ, List, Option, None, Some, sym}
use Rattle.std.specs.Prelude.{Contains, IfSome, find}
use Rattle.elf_model.proofs.Finding.{IsFound, find-found}
use Rattle.judge_model.specs.declared.frame_record.FrameRecord.{FrameRecord}

-- what is found is among the records
pub there_of : (offset : ℕ) (rs : List FrameRecord) (o : Option FrameRecord) → o ≡ find (λ r. r.offset == offset) rs → IfSome o (λ t. Contains rs t)
there_of offset rs None e = tt
there_of offset rs (Some t) e = found_in (find-found (λ (r : FrameRecord). r.offset == offset) rs t (sym e))
  where
    found_in : IsFound (λ (r : FrameRecord). r.offset == offset) rs t → Contains rs t
    found_in f = f.there
