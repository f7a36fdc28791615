use Rattle.std.proofs.Common.{refl}
use Rattle.elf_model.specs.NameHash.{mixed}
use Rattle.elf_model.proofs.name_hash.mixed.Goals as goal

pub returns : goal.returns
unfolding mixed
returns c = refl
