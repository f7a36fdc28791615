use Rattle.std.proofs.Common.{◌≡◌, IfErr}
use Rattle.std.specs.Prelude.{Err, Result}
use Rattle.std.proofs.lemmas.Result.{err_from_is_err_and}
use Rattle.elf_model.specs.declared.faults.LinkError.{LinkError}
use Rattle.linker.specs.Outputs.{LinksRefuse}
use Rattle.linker.proofs.phases.prepare_placed.Goals as goal

-- an error that is passed on
passed : {X : Type 0} (Q : LinkError → Type 0) (r : Result X LinkError) (e : LinkError) → (g : LinkError) × (r ≡ Err g) × (g ≡ e) → Q e → IfErr r Q
passed Q r e p fails = rw (p.1, p.2) fails

pub returns-in_err-patches-clause-fault : goal.returns-in_err-patches-clause-fault
returns-in_err-patches-clause-fault c =
    let exit = c.from_residual-in_err-patches in
    passed (LinksRefuse c.args.loaded.now.plan c.args.loaded.now.objects) exit.result c.in_err-patches.field-0.0
    (err_from_is_err_and exit.result exit.ensures.1) c.in_err-patches.ensures.fault
