use Rattle.std.proofs.Common.{subst, sym}
use Rattle.elf_model.specs.Link.Pieces.{AreLawfulKinds}
use Rattle.layer_tests.proofs.tests.places.first_wrong_placed.Goals as goal

pub first_wrong-requires : goal.first_wrong-requires
first_wrong-requires c = subst AreLawfulKinds (sym c.in_ok-placement.ensures) c.requires.kinds
