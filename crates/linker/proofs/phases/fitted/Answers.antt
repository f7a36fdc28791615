use Rattle.std.proofs.Common.{subst, sym}
use Rattle.elf_model.specs.Own.OwnLayout.{OwnValuesFit}
use Rattle.layout.specs.Placements.{Basis}
use Rattle.relocate.specs.Values.{ValuesFail}
use Rattle.linker.specs.Outputs.{LinksRefuse}
use Rattle.linker.proofs.Links.{values_refuse}
use Rattle.linker.proofs.phases.fitted.Goals as goal

pub returns-in-Ok-clause-linkable : goal.returns-in-Ok-clause-linkable
returns-in-Ok-clause-linkable c = record {
  laid_out = c.requires.laid;
  fits = subst (λ (b : Basis). OwnValuesFit b.base b.objects) c.requires.placed c.in-Ok.ensures.fit;
}

pub returns-in-Err-clause-fault : goal.returns-in-Err-clause-fault
returns-in-Err-clause-fault c =
    let p = c.args.loaded.now.plan in
    let objects = c.args.loaded.now.objects in
    subst (LinksRefuse p objects) (sym c.reloc_error.ensures)
    (values_refuse p objects c.requires.laid c.in-Err.fault
    (subst (λ (b : Basis). ValuesFail b c.in-Err.fault) c.requires.placed c.in-Err.ensures.fault))
