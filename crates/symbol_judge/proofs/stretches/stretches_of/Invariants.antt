use Rattle.std.proofs.Common.{◌≡◌, ◌++◌, drop}
use Rattle.symbol_judge.specs.Stretches.{stretches_of}
use Rattle.symbol_judge.proofs.stretches.stretches_of.Given as goal

abbrev pub invariant-loop-section : goal.invariant-loop-section
invariant-loop-section l = l.found.items ++ stretches_of (drop l.section-index l.sections) ≡ stretches_of l.sections
