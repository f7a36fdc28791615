use Rattle.std.proofs.Common.{drop}
use Rattle.std.specs.Prelude.{All, IfSome, IsSome}
use Rattle.elf_model.specs.Inputs.ArchiveFile as archive
use Rattle.elf_model.proofs.Rests.{Left}
use Rattle.ar_index.proofs.index.are_of_members.Given as goal

abbrev pub invariant-loop-entry : goal.invariant-loop-entry
invariant-loop-entry l = record {
  known : IfSome l.known (λ o. IsSome (archive.data_of l.members o));
  left :
      Left (All (λ e. IsSome (archive.data_of l.members e.offset)) l.entries)
      (All (λ e. IsSome (archive.data_of l.members e.offset)) (drop l.entry-index l.entries));
}
