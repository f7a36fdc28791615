use Rattle.std.proofs.Common.{◌≡◌, List, Ok, subst, sym}
use Rattle.std.specs.Prelude.{IfSome}
use Rattle.ar_index.specs.declared.part_file.PartFile.{PartFile}
use Rattle.elf_model.specs.Inputs.Command.{Plan, command_of}
use Rattle.elf_model.specs.Inputs.Files.{words_of}
use Rattle.opening.specs.Held.{AreSearched}
use Rattle.debug_main.proofs.linking.link_in_part.Goals as goal

pub link_parts-requires-clause-searched : goal.link_parts-requires-clause-searched
link_parts-requires-clause-searched g c plan is =
    let searched =
    subst (λ o. IfSome o (λ h. (p : Plan) → command_of (words_of c.args.words.now) ≡ Ok p → AreSearched h.parts.items p)) c.in-Some.is
    c.in_ok-files.ensures.searched in
    subst (λ (parts : List PartFile). AreSearched parts plan) (sym c.deref.ensures.value) (searched plan is)
