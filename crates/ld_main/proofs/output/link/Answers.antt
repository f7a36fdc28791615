use Rattle.std.proofs.lemmas.Result.{err_from_is_err_and}
use Rattle.elf_model.specs.Inputs.Files.{files_of, words_of}
use Rattle.linker.proofs.FinalRefusals.{memory_cause, no_memory}
use Rattle.linker.proofs.Links.{own, right}
use Rattle.ld_main.proofs.output.link.Goals as goal

pub returns-clause-right : goal.returns-clause-right
returns-clause-right c =
    right (files_of c.args.files.now) (words_of c.args.words.now) c.in-Ok.linkage c.in-Ok.ensures.prepared c.in_ok-image.image.items c.in_ok-map.map.items
    c.in_ok-image.ensures c.in_ok-map.ensures

pub returns-clause-own : goal.returns-clause-own
returns-clause-own c =
    own (files_of c.args.files.now) (words_of c.args.words.now) c.in-Ok.linkage c.in-Ok.ensures.prepared c.in_ok-image.image.items c.in_ok-map.map.items
    c.in_ok-image.ensures c.in_ok-map.ensures

pub returns-in_err-image-clause-no_link : goal.returns-in_err-image-clause-no_link
returns-in_err-image-clause-no_link c =
    let exit = c.from_residual in
    no_memory (files_of c.args.files.now) (words_of c.args.words.now) exit.result (err_from_is_err_and exit.result exit.ensures.1)

pub returns-in_err-map-clause-no_link : goal.returns-in_err-map-clause-no_link
returns-in_err-map-clause-no_link c =
    let exit = c.from_residual-in_err-map in
    no_memory (files_of c.args.files.now) (words_of c.args.words.now) exit.result (err_from_is_err_and exit.result exit.ensures.1)

pub returns-in_err-image-clause-cause : goal.returns-in_err-image-clause-cause
returns-in_err-image-clause-cause c =
    let exit = c.from_residual in
    memory_cause (files_of c.args.files.now) (words_of c.args.words.now) exit.result (err_from_is_err_and exit.result exit.ensures.1)

pub returns-in_err-map-clause-cause : goal.returns-in_err-map-clause-cause
returns-in_err-map-clause-cause c =
    let exit = c.from_residual-in_err-map in
    memory_cause (files_of c.args.files.now) (words_of c.args.words.now) exit.result (err_from_is_err_and exit.result exit.ensures.1)
