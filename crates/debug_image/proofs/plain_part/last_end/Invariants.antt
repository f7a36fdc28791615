use Rattle.std.proofs.Common.{◌≡◌, ◌≤◌, ◌-◌, length}
use Rattle.std.specs.Prelude.{map, max, min}
use Rattle.std.specs.List.{range_with_len}
use Rattle.elf_model.specs.Image.MemoryImage.{file_end, loads, loads_in, program_header_at}
use Rattle.debug_image.proofs.plain_part.last_end.Given as goal

abbrev pub invariant-loop-index : goal.invariant-loop-index
invariant-loop-index l = record {
  low : l.end ≤ length l.image;
  rest :
      max l.end (min (length l.image) (file_end (loads_in (map (program_header_at l.image) (range_with_len l.index (l.count - l.index))))))
      ≡ min (length l.image) (file_end (loads l.image));
}
