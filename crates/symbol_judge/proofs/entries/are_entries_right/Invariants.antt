use Rattle.std.proofs.Common.{◌≡◌, drop}
use Rattle.std.specs.Prelude.{All}
use Rattle.elf_model.proofs.Rests.{Left}
use Rattle.symbol_judge.specs.Entries.{IsRightNamed, named_by}
use Rattle.symbol_judge.proofs.entries.are_entries_right.Given as goal

abbrev pub invariant-loop-entry : goal.invariant-loop-entry
invariant-loop-entry l =
    (l.named ≡ named_by l.meanings l.strings l.names l.named.offset)
    × Left (All (IsRightNamed l.meanings l.sections l.strings l.names l.locals) l.entries)
    (All (IsRightNamed l.meanings l.sections l.strings l.names l.locals) (drop l.entry-index l.entries))
