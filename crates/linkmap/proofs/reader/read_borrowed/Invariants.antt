use Rattle.std.proofs.Common.{◌+◌, ◌≤◌, length}
use Rattle.linkmap.specs.Record.{AreBehind, record_of}
use Rattle.linkmap.proofs.ReadLaws.{Reading}
use Rattle.linkmap.proofs.reader.read_borrowed.Given as goal

abbrev pub invariant-lines : goal.invariant-lines
invariant-lines l = record {
  reading : Reading (record_of l.map) l.fn.bytes l.rest l.number;
  here : AreBehind l.map l.rest;
  within : l.number + length l.rest ≤ length l.fn.bytes;
}

abbrev pub decreases-lines : goal.decreases-lines
decreases-lines l = length l.rest
