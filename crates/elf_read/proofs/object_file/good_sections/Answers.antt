use Rattle.std.proofs.Common.{◌∙◌}
use Rattle.std.proofs.lemmas.Result.{err_from_is_err_and}
use Rattle.elf_model.specs.Inputs.ObjectFile.{symbols_of}
use Rattle.elf_read.proofs.Faults.{of_file, passed}
use Rattle.elf_read.proofs.object_file.good_sections.Goals as goal

pub returns-in_err-judge_sections-clause-fault : goal.returns-in_err-judge_sections-clause-fault
returns-in_err-judge_sections-clause-fault c =
    let bytes = c.args.file.now in
    let rows = c.deref.result.now in
    let rows_are = c.deref.ensures.value ∙ c.in_ok-sections.ensures in
    let exit = c.from_residual-in_err-judge_sections in
    let f = c.in_err-judge_sections.field-0.0 in
    passed bytes exit.result f (err_from_is_err_and exit.result exit.ensures.1)
    (of_file bytes c.args.header.now rows f c.requires.header_is rows_are (c.in_err-judge_sections.ensures.fault (symbols_of bytes rows)))
