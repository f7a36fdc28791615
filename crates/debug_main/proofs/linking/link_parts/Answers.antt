use Rattle.std.proofs.lemmas.Result.{err_from_is_err_and}
use Rattle.elf_model.specs.Inputs.Files.{files_of, words_of}
use Rattle.image_write.specs.Linkages.{own_image}
use Rattle.ld_main.proofs.Failures.{passed_on}
use Rattle.unread_law.proofs.PartLinks.{right_of_all}
use Rattle.debug_main.proofs.linking.link_parts.Goals as goal

pub returns-clause-all : goal.returns-clause-all
returns-clause-all g c linked whole of =
    let own = c.in-Ok.ensures.right in
    let right = own.right in (
      own_image c.in-Ok.linkage,
      own.text,
      right_of_all (record { parts = c.args.parts.now; wholes = files_of c.args.files.now }) whole (words_of c.args.words.now) (own_image c.in-Ok.linkage) own.text
          right.plan right.read.plan (c.requires.searched right.plan right.read.plan) of right,
    )

pub returns-in_err-write_link-clause-status : goal.returns-in_err-write_link-clause-status
returns-in_err-write_link-clause-status g c =
    passed_on _ c.from_residual.result c.in_err-write_link.field-0.0 (err_from_is_err_and c.from_residual.result c.from_residual.ensures.1)
    c.in_err-write_link.ensures.status

pub returns-in_err-write_link-clause-unwritten : goal.returns-in_err-write_link-clause-unwritten
returns-in_err-write_link-clause-unwritten g c =
    passed_on _ c.from_residual.result c.in_err-write_link.field-0.0 (err_from_is_err_and c.from_residual.result c.from_residual.ensures.1)
    c.in_err-write_link.ensures.unwritten
