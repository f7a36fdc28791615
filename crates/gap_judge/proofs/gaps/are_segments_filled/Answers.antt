use Rattle.std.proofs.Common.{◌≡◌, List, true, ◌+◌, ◌<◌, ◌^◌, length, subst, sym, arith}
use Rattle.std.specs.Prelude.{All, Contains}
use Rattle.std.proofs.lemmas.List.Elements.{All-weaker}
use Rattle.elf_model.proofs.Listed.{All-from_contains}
use Rattle.elf_model.specs.Image.MemoryImage.{loads}
use Rattle.elf_model.specs.declared.records.ProgramHeader.{ProgramHeader}
use Rattle.judge_model.specs.Headers.{IsLoad}
use Rattle.gap_judge.specs.Fill.{IsSegmentFilled}
use Rattle.gap_judge.proofs.gaps.are_segments_filled.Goals as goal

pub are_all_filled-requires : goal.are_all_filled-requires
are_all_filled-requires c = record {
  there =
      subst (λ (hs : List ProgramHeader). All (Contains (loads c.args.image.now)) hs) (sym c.segments.ensures)
      (All-from_contains (Contains (loads c.args.image.now)) (loads c.args.image.now) (λ h there. there));
  low =
      subst (λ (hs : List ProgramHeader). All (λ h. h.p_vaddr + h.p_memsz < 2 ^ 64) hs) (sym c.segments.ensures)
      (All-weaker (IsLoad (length c.args.image.now)) (λ h. h.p_vaddr + h.p_memsz < 2 ^ 64) (λ h load. let low = load.low in omega (arith, low))
      (loads c.args.image.now) c.image-program.ensures.program.loads_are.each);
  runs = c.requires.runs;
  rising = c.requires.rising;
}

pub returns : goal.returns
returns c =
    subst (λ (hs : List ProgramHeader). (c.are_all_filled.result ≡ true → All (IsSegmentFilled c.args.image.now c.args.spans.now c.args.runs.now) hs) × (All (IsSegmentFilled c.args.image.now c.args.spans.now c.args.runs.now) hs → c.are_all_filled.result ≡ true)) c.segments.ensures
    c.are_all_filled.ensures
