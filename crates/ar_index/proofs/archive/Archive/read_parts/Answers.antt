use Rattle.std.proofs.Common.{List, ◌∙◌, subst, sym}
use Rattle.std.proofs.lemmas.Result.{err_from_is_err_and}
use Rattle.elf_model.specs.Inputs.ArchiveFile.{StoredMember}
use Rattle.ar_index.specs.Parts.{part_bytes}
use Rattle.ar_index.specs.Reading.{IsPassed}
use Rattle.ar_index.proofs.PartLaws.{parts_magic, parts_passed}
use Rattle.ar_index.proofs.Steps.{only_memory, passed}
use Rattle.ar_index.proofs.archive.Archive.read_parts.Goals as goal

pub returns-in_err-stored-clause-only : goal.returns-in_err-stored-clause-only
returns-in_err-stored-clause-only c =
    let exit = c.from_residual in
    let bytes = part_bytes c.args.file.now.members in
    only_memory bytes exit.result (passed bytes exit.result c.in_err-stored.field-0.0 (err_from_is_err_and exit.result exit.ensures.1) c.in_err-stored.ensures.fault)

pub archive_of-requires-clause-magic : goal.archive_of-requires-clause-magic
archive_of-requires-clause-magic c = parts_magic c.args.file.now.members c.in_ok-stored.ensures.parts

pub archive_of-requires-clause-passed : goal.archive_of-requires-clause-passed
archive_of-requires-clause-passed c =
    let members = c.args.file.now.members in
    subst (IsPassed (part_bytes members)) (sym (c.deref.ensures.value ∙ c.in_ok-stored.ensures.members)) (parts_passed members c.in_ok-stored.ensures.parts)

pub returns-clause-only : goal.returns-clause-only
returns-clause-only c = only_memory (part_bytes c.args.file.now.members) c.archive_of.result c.archive_of.ensures.fault
