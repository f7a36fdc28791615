use Rattle.std.proofs.Common.{refl, subst, sym}
use Rattle.std.specs.Prelude.{IsSome}
use Rattle.elf_model.specs.Inputs.Files.{files_of}
use Rattle.order_judge.proofs.OrderLaws.{readable_if_loads}
use Rattle.order_judge.proofs.origins.loaded_origins.Goals as goal

pub returns-clause-readable : goal.returns-clause-readable
returns-clause-readable c =
    readable_if_loads (files_of c.args.files.now) c.args.plan.now (c.in_ok-objects.ensures.some.0 (subst IsSome (sym c.in-Some.is) refl))
