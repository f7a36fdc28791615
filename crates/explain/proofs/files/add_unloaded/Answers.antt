use Rattle.elf_model.specs.Inputs.Files.{files_of}
use Rattle.explain.specs.Places.{OfPlan}
use Rattle.explain.proofs.files.add_unloaded.Goals as goal

pub returns : goal.returns
returns c = c.add-2.ensures (OfPlan (files_of c.args.files.now) c.args.plan.now) c.loop-i.invariant c.in_ok-refused_place.ensures
