use Rattle.std.proofs.Common.{◌≡◌, refl}
use Rattle.elf_model.specs.Inputs.Files.{files_of, words_of}
use Rattle.unread_law.proofs.PartLinks.{right_of_all}
use Rattle.ld_main.proofs.program.judged.Goals as goal

pub returns-in-Yes-clause-judged : goal.returns-in-Yes-clause-judged
returns-in-Yes-clause-judged c = record {
  checked = refl;
  right = (λ e. c.in_ok-check_parts.ensures.yes.0 cc, λ r. refl);
  wrong = λ k. (λ e. cc, λ least. let e = (c.in_ok-check_parts.ensures.no k).1 least in cc);
}

pub returns-in-Yes-clause-all : goal.returns-in-Yes-clause-all
returns-in-Yes-clause-all c low whole of =
    let right = c.in_ok-check_parts.ensures.yes.0 cc in
    right_of_all (record { parts = c.args.parts.now; wholes = files_of c.args.files.now }) whole (words_of c.args.words.now) c.args.image.now c.args.map.now
    right.plan right.read.plan (c.requires right.plan right.read.plan) of right

pub returns-in-No-clause-judged : goal.returns-in-No-clause-judged
returns-in-No-clause-judged c = record {
  checked = refl;
  right = (λ e. cc, λ r. let e = c.in_ok-check_parts.ensures.yes.1 r in cc);
  wrong = λ k. (λ e. (c.in_ok-check_parts.ensures.no k).0 cc, λ least. let e = (c.in_ok-check_parts.ensures.no k).1 least in cc);
}
