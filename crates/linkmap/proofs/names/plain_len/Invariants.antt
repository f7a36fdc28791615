use Rattle.std.proofs.Common.{◌≡◌, ◌+◌, ◌-◌, ◌≤◌, length}
use Rattle.std.specs.List.{prefix_len}
use Rattle.elf_model.specs.Image.MapText.{is_plain}
use Rattle.linkmap.proofs.names.plain_len.Given as goal

abbrev pub invariant-vectors : goal.invariant-vectors
invariant-vectors l = record {
  within : length l.rest ≤ length l.fn.bytes;
  count : prefix_len is_plain l.fn.bytes ≡ length l.fn.bytes - length l.rest + prefix_len is_plain l.rest;
}

abbrev pub decreases-vectors : goal.decreases-vectors
decreases-vectors l = length l.rest
