use Rattle.std.proofs.Common.{◌≡◌, length}
use Rattle.file_io.specs.Placed.{AreToldPassed}
use Rattle.file_io.proofs.placed_bytes.read_members.Given as goal

abbrev pub invariant-loop-i : goal.invariant-loop-i
invariant-loop-i g l = record {
  passed : AreToldPassed (g.P.PlacedBytes.told l.fn.bytes) l.fn.file.members l.file.members l.i l.at;
  count : length l.file.members ≡ length l.fn.file.members;
  name : l.file.name ≡ l.fn.file.name;
  same : g.P.PlacedBytes.told l.bytes ≡ g.P.PlacedBytes.told l.fn.bytes;
}
