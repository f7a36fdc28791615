use Rattle.std.proofs.Common.{◌≡◌, ◌-◌}
use Rattle.std.specs.Prelude.{string_bytes}
use Rattle.file_io.specs.Placed.{AreToldUpTo}
use Rattle.file_io.proofs.placed_bytes.read_parts.Given as goal

abbrev pub invariant-loop-at : goal.invariant-loop-at
invariant-loop-at g l = record {
  told : AreToldUpTo (g.P.PlacedBytes.told l.fn.bytes) l.len l.file.members l.at;
  name : l.file.name ≡ string_bytes l.fn.name;
  same : g.P.PlacedBytes.told l.bytes ≡ g.P.PlacedBytes.told l.fn.bytes;
}

abbrev pub decreases-loop-at : goal.decreases-loop-at
decreases-loop-at g l = l.len - l.at
