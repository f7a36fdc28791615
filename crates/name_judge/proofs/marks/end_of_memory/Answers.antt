use Rattle.std.proofs.Common.{◌≡◌, ℕ, ◌+◌, ◌<◌, ◌≤◌, ◌^◌, List, length, get_or, drop, max, ap, arith}
use Rattle.std.specs.Prelude.{All}
use Rattle.elf_model.proofs.Rests.{rest_at}
use Rattle.elf_model.specs.declared.records.ProgramHeader.{ProgramHeader}
use Rattle.judge_model.specs.Memory.{memory_end}
use Rattle.name_judge.specs.Clear.{IsLowEnd}
use Rattle.name_judge.proofs.marks.end_of_memory.Goals as goal

module _ (hs : List ProgramHeader) (i : ℕ) (d : ProgramHeader) (end r : ℕ) (within : i < length hs)
    (is : r ≡ max end ((get_or hs i d).p_vaddr + (get_or hs i d).p_memsz)) where
  end_more : max end (memory_end (drop i hs)) ≡ memory_end hs → max r (memory_end (drop (i + 1) hs)) ≡ memory_end hs
  end_more before =
      let more : memory_end (drop i hs) ≡ max ((get_or hs i d).p_vaddr + (get_or hs i d).p_memsz) (memory_end (drop (i + 1) hs)) =
      ap memory_end (rest_at hs i d within) in
      omega (arith, is, before, more)

  low_more : All IsLowEnd hs → end ≤ 2 ^ 47 → r ≤ 2 ^ 47
  low_more all before =
      let low = (all i d within).low in
      omega (arith, is, before, low)

pub further-end-requires : goal.further-end-requires
further-end-requires c = c.requires c.loop-h.h-index _ c.loop-h-test.true

pub loop-h-preserved : goal.loop-h-preserved
loop-h-preserved c = record {
  low =
      low_more c.args.segments.now c.loop-h.h-index _ c.loop-h.end c.further-end.result c.loop-h-test.true c.further-end.ensures c.requires
      c.loop-h.invariant.low;
  end_is =
      end_more c.args.segments.now c.loop-h.h-index _ c.loop-h.end c.further-end.result c.loop-h-test.true c.further-end.ensures
      c.loop-h.invariant.end_is;
}
