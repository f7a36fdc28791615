use Rattle.std.proofs.Common.{◌≡◌, List, [], subst, sym, ◌∙◌}
use Rattle.std.proofs.lemmas.Result.{err_from_is_err_and}
use Rattle.elf_model.specs.Link.Groups.{AreDropped, GroupFaultStands, dropped, seen_after}
use Rattle.elf_model.specs.Inputs.ObjectFile.{Group, groups}
use Rattle.elf_model.proofs.DroppedSections.{dropped_iff}
use Rattle.comdat.proofs.GroupFaultLemmas.{only_memory, passed}
use Rattle.comdat.proofs.groups.Groups.admit.Goals as goal

pub returns-in_err-judge-clause-fault : goal.returns-in_err-judge-clause-fault
returns-in_err-judge-clause-fault c =
    let exit = c.from_residual in
    let f = c.in_err-judge.field-0.0 in
    passed (groups c.args.object.now) exit.result f (err_from_is_err_and exit.result exit.ensures.1)
    (subst (λ (gs : List Group). GroupFaultStands gs f) c.groups-groups.ensures.exact c.in_err-judge.ensures.fault)

pub returns-in_err-judge-clause-only : goal.returns-in_err-judge-clause-only
returns-in_err-judge-clause-only c =
    only_memory (groups c.args.object.now) c.from_residual.result (returns-in_err-judge-clause-fault c)

pub returns-in-Ok-clause-load_order : goal.returns-in-Ok-clause-load_order
returns-in-Ok-clause-load_order c earlier seen_is =
    let gs = groups c.args.object.now in
    let is : c.in-Ok.dropped ≡ dropped (seen_after [] earlier) gs =
    c.in-Ok.ensures.dropped ∙ (λ j. dropped ((c.self.view_is ∙ seen_is) j) (c.groups-groups.ensures.exact j))
    in
    subst (AreDropped earlier gs) (sym is) (dropped_iff earlier gs)
