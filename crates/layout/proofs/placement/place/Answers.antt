use Rattle.std.proofs.Common.{List, subst}
use Rattle.elf_model.specs.Link.Loading.{LoadedObject}
use Rattle.elf_model.specs.Own.OwnAddresses.{AreOwnAddresses}
use Rattle.elf_model.specs.Link.Pieces.{AreLawfulKinds}
use Rattle.layout.proofs.placement.place.Goals as goal

pub returns-clause-addresses : goal.returns-clause-addresses
returns-clause-addresses c =
    subst (λ (os : List LoadedObject). AreLawfulKinds os → AreOwnAddresses c.args.base os) c.objects-objects.ensures.exact c.in_ok-tables.ensures.addresses
