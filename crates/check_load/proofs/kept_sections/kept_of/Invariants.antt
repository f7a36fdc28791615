use Rattle.std.proofs.Common.{◌≡◌, ◌++◌, drop}
use Rattle.check_load.specs.Kept.{numbers_behind, numbers_in, relas_behind, relas_in}
use Rattle.check_load.proofs.kept_sections.kept_of.Given as goal

abbrev pub invariant-loop-i : goal.invariant-loop-i
invariant-loop-i l = record {
  numbers : l.kept.numbers.items ++ numbers_behind l.dropped l.i (drop l.i l.headers) ≡ numbers_in l.dropped l.object;
  relas : l.kept.relas.items ++ relas_behind l.dropped l.object l.i (drop l.i l.headers) ≡ relas_in l.dropped l.object;
}
