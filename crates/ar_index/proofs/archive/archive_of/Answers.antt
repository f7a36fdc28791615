use Rattle.std.proofs.Common.{List, ap, sym, subst, ◌∙◌}
use Rattle.std.proofs.lemmas.Bool.{false≢true}
use Rattle.std.proofs.lemmas.Result.{err_from_is_err_and}
use Rattle.elf_model.specs.Inputs.ArchiveFile.{entries_of, index_in, ordinary}
use Rattle.ar_index.specs.FileBytes.{held_bytes}
use Rattle.ar_index.specs.Reading.{AreAscending}
use Rattle.ar_index.proofs.Ascending.{ascending}
use Rattle.ar_index.proofs.Steps.{entries_fail, entries_of_members, index_fails, passed}
use Rattle.ar_index.proofs.archive.archive_of.Goals as goal

pub returns-in_err-index-clause-fault : goal.returns-in_err-index-clause-fault
returns-in_err-index-clause-fault c =
    let exit = c.from_residual-in_err-index in
    let f = c.in_err-index.field-0.0 in
    let bytes = held_bytes c.args.file in
    passed bytes exit.result f (err_from_is_err_and exit.result exit.ensures.1)
    (index_fails bytes c.args.stored.now c.requires.passed f c.requires.magic c.in_err-index.ensures.fault)

pub names_members-requires : goal.names_members-requires
names_members-requires c =
    let members_are = c.deref.ensures.value ∙ c.in_ok-members.ensures ∙ ap ordinary c.requires.passed.members in
    subst AreAscending (sym members_are) (ascending (held_bytes c.args.file))

pub returns-then-not-names_members-clause-fault : goal.returns-then-not-names_members-clause-fault
returns-then-not-names_members-clause-fault c =
    let bytes = held_bytes c.args.file in
    let members_are = c.deref.ensures.value ∙ c.in_ok-members.ensures ∙ ap ordinary c.requires.passed.members in
    let index_is = c.in_ok-index.ensures.index ∙ ap index_in c.requires.passed.members in
    entries_fail bytes c.args.stored.now c.requires.passed c.requires.magic
    (λ each. false≢true (sym c.if-not-names_members.true ∙ c.names_members.ensures.1 (entries_of_members bytes _ _ members_are index_is each)))
