use Rattle.std.proofs.Common.{◌≡◌}
use Rattle.file_io.proofs.file_sink.write_some.Given as goal

abbrev pub invariant-tries : goal.invariant-tries
invariant-tries g l = g.F.SparseWrite.held l.file ≡ g.F.SparseWrite.held l.fn.file
