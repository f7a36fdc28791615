use Rattle.std.proofs.Common.{◌≡◌, ◌++◌, length}
use Rattle.check_load.specs.KeptRelocations.{relocations_of_relas}
use Rattle.check_load.proofs.kept_relocations.RelocationsIterator.next.Given as goal

-- only RELA sections of which none is left were passed over
abbrev pub invariant-loop-relocation : goal.invariant-loop-relocation
invariant-loop-relocation l =
    l.self-inside.entries ++ relocations_of_relas l.self-inside.object.now l.self-inside.relas.now ≡ l.fn.self

abbrev pub decreases-loop-relocation : goal.decreases-loop-relocation
decreases-loop-relocation l = length l.self-inside.relas.now
