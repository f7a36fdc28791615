use Rattle.std.proofs.Common.{◌≡◌, ◌∙◌, ℕ, ◌+◌, ◌<◌, ◌≤◌, ◌^◌, List, length, get_or, drop, max, ap, arith}
use Rattle.elf_model.proofs.Rests.{rest_at}
use Rattle.elf_model.specs.declared.records.ProgramHeader.{ProgramHeader}
use Rattle.judge_model.specs.Memory.{memory_end}
use Rattle.place_judge.proofs.memory.memory_end.Goals as goal

end_more :
    (hs : List ProgramHeader) (i : ℕ) (d : ProgramHeader) (end r : ℕ) → i < length hs →
    r ≡ max end ((get_or hs i d).p_vaddr + (get_or hs i d).p_memsz) → max end (memory_end (drop i hs)) ≡ memory_end hs →
    max r (memory_end (drop (i + 1) hs)) ≡ memory_end hs
end_more hs i d end r within is before =
    let more : memory_end (drop i hs) ≡ max ((get_or hs i d).p_vaddr + (get_or hs i d).p_memsz) (memory_end (drop (i + 1) hs)) =
    ap memory_end (rest_at hs i d within) in
    omega (arith, is, before, more)

low_more : (end e r : ℕ) → end ≤ 2 ^ 65 → e ≤ 2 ^ 65 → r ≡ max end e → r ≤ 2 ^ 65
low_more end e r a b is = omega (arith, a, b, is)

pub loop-h-preserved : goal.loop-h-preserved
loop-h-preserved c = record {
  low = low_more c.loop-h.end c.end_of.result c.max-end.result c.loop-h.invariant.low c.end_of.ensures.low c.max-end.ensures;
  end_is =
      end_more c.args.segments.now c.loop-h.h-index _ c.loop-h.end c.max-end.result c.loop-h-test.true
      (c.max-end.ensures ∙ ap (max c.loop-h.end) c.end_of.ensures.end) c.loop-h.invariant.end_is;
}
