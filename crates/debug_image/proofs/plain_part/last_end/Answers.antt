use Rattle.std.proofs.Common.{◌≤◌, ◌+◌, ◌-◌, ◌∙◌, ℕ, List, ap, length, map, subst, sym}
use Rattle.std.specs.Prelude.{max, min}
use Rattle.std.specs.List.{range_with_len}
use Rattle.elf_model.specs.Image.MemoryImage.{file_end, loads_in, program_header_at}
use Rattle.elf_model.specs.declared.records.ProgramHeader.{ProgramHeader}
use Rattle.debug_image.specs.PlainImages.{end_with}
use Rattle.debug_image.proofs.PlainSteps.{end_low, end_more, headers_left}
use Rattle.debug_image.proofs.plain_part.last_end.Goals as goal

pub loop-index-preserved : goal.loop-index-preserved
loop-index-preserved c =
    let image = c.args.image.now in
    let len : ℕ = length image in
    let k = c.loop-index.index in
    let h = program_header_at image k in
    let rest : List ProgramHeader = map (program_header_at image) (range_with_len (k + 1) (c.args.count - (k + 1))) in
    let is = c.end_with-end.ensures ∙ ap (λ (g : ProgramHeader). end_with g len c.loop-index.end) c.program_header.ensures in
    record {
      low = subst (λ (n : ℕ). n ≤ len) (sym is) (end_low h len c.loop-index.end c.loop-index.invariant.low);
      rest =
          ap (λ (n : ℕ). max n (min len (file_end (loads_in rest)))) is
          ∙ (end_more h rest len c.loop-index.end
          ∙ (ap (λ (hs : List ProgramHeader). max c.loop-index.end (min len (file_end (loads_in hs))))
          (sym (headers_left (program_header_at image) c.args.count k c.loop-index-test.true))
          ∙ c.loop-index.invariant.rest));
    }
