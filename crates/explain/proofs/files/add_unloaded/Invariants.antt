use Rattle.elf_model.specs.Inputs.Files.{files_of}
use Rattle.explain.specs.Places.{AreSo, OfPlan}
use Rattle.explain.proofs.files.add_unloaded.Given as goal

abbrev pub invariant-loop-i : goal.invariant-loop-i
invariant-loop-i l = AreSo (OfPlan (files_of l.files) l.plan) l.found.places.items
