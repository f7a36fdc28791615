use Rattle.std.proofs.Common.{◌≡◌, ◌++◌, ◌<◌, ℕ, drop, get_or}
use Rattle.std.specs.List.{flat_map}
use Rattle.elf_model.specs.declared.records.Symbol.{Symbol}
use Rattle.input_judge.specs.WholeCode.{IsShort, points_of}
use Rattle.input_judge.proofs.whole_code.found_points.Given as goal

abbrev pub invariant-loop-j : goal.invariant-loop-j
invariant-loop-j l = record {
  points : l.points.items ++ flat_map points_of (drop l.j l.symbols) ≡ flat_map points_of l.symbols;
  short : (k : ℕ) (d : Symbol) → k < l.j → IsShort (get_or l.symbols k d);
}
