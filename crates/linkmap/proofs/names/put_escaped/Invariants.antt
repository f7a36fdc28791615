use Rattle.std.proofs.Common.{◌≡◌, ◌++◌, length}
use Rattle.elf_model.specs.Image.MapText.{escaped}
use Rattle.linkmap.proofs.names.put_escaped.Given as goal

abbrev pub invariant-runs : goal.invariant-runs
invariant-runs l = l.out.items ++ escaped l.rest ≡ l.initial.out.items ++ escaped l.fn.name

abbrev pub decreases-runs : goal.decreases-runs
decreases-runs l = length l.rest
