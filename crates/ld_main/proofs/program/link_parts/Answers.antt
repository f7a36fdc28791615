use Rattle.std.proofs.lemmas.Result.{err_from_is_err_and}
use Rattle.elf_model.specs.Inputs.Files.{files_of, words_of}
use Rattle.image_write.specs.Linkages.{own_image}
use Rattle.unread_law.proofs.PartLinks.{right_of_all}
use Rattle.ld_main.proofs.Failures.{passed_on}
use Rattle.ld_main.proofs.program.link_parts.Goals as goal

pub returns-clause-all : goal.returns-clause-all
returns-clause-all g c low whole of =
    let own = c.in-Ok.ensures.right in
    let right = own.right in (
      own_image c.in-Ok.linkage,
      own.text,
      right_of_all (record { parts = c.args.parts.now; wholes = files_of c.args.files.now }) whole (words_of c.args.words.now) (own_image c.in-Ok.linkage) own.text
          right.plan right.read.plan (c.requires right.plan right.read.plan) of right,
    )

pub returns-in_err-write_outputs-clause-fault : goal.returns-in_err-write_outputs-clause-fault
returns-in_err-write_outputs-clause-fault g c =
    passed_on _ c.from_residual.result c.in_err-write_outputs.field-0.0 (err_from_is_err_and c.from_residual.result c.from_residual.ensures.1)
    c.in_err-write_outputs.ensures.least

pub returns-in_err-write_outputs-clause-unwritten : goal.returns-in_err-write_outputs-clause-unwritten
returns-in_err-write_outputs-clause-unwritten g c =
    passed_on _ c.from_residual.result c.in_err-write_outputs.field-0.0 (err_from_is_err_and c.from_residual.result c.from_residual.ensures.1)
    c.in_err-write_outputs.ensures.told
