use Rattle.std.proofs.Common.{All, take}
use Rattle.file_io.specs.FileIds.{IsRead}
use Rattle.file_io.proofs.file_ids.overwritten.Given as goal

abbrev pub invariant-loop-output : goal.invariant-loop-output
invariant-loop-output l = All (λ o. IsRead o l.path l.id → ⊥) (take l.output-index l.outputs)
