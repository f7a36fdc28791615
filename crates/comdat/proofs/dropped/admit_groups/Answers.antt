use Rattle.std.proofs.Common.{◌≡◌, Bool, false, List, rules, ap, subst, sym, ◌∙◌, replicate}
use Rattle.std.proofs.lemmas.List.{drop_all}
use Rattle.elf_model.specs.Inputs.ObjectFile.{Group}
use Rattle.elf_model.specs.Marks.{marked, marked_numbers}
use Rattle.comdat.specs.Signatures.{names_of}
use Rattle.elf_model.proofs.Marks.{numbers_marked}
use Rattle.comdat.proofs.DroppedMembers.{dropped_members, members_below}
use Rattle.comdat.proofs.dropped.admit_groups.Goals as goal

pub returns-clause-dropped : goal.returns-clause-dropped
returns-clause-dropped c =
    let gs = c.args.groups.now in
    let seen = names_of c.args.signatures.now.keys in
    let members = dropped_members seen gs in
    let none = drop_all c.loop-group.group-index gs c.loop-group-test.false in
    let marks_are : c.loop-group.marks.items ≡ marked (replicate c.args.count false) members =
    ap (λ (rest : List Group). marked c.loop-group.marks.items (dropped_members (names_of c.loop-group.signatures.keys) rest)) (sym none)
    ∙ c.loop-group.invariant.marks ∙ ap (λ (m : List Bool). marked m members) (c.in_ok-marks.ensures.items_if_clones_equal (λ y k. search rules))
    in
    c.in_ok-sections.ensures ∙ ap marked_numbers (c.deref.ensures.value ∙ marks_are)
    ∙ numbers_marked c.args.count members (members_below c.args.count seen gs c.requires)

pub invariant_of-result-2 : goal.invariant_of-result-2
invariant_of-result-2 c = c.in_ok-sections.ensures ∙ ap marked_numbers c.deref.ensures.value
