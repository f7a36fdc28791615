use Rattle.std.proofs.Common.{◌≡◌}
use Rattle.elf_model.specs.NameHash.{blocks}
use Rattle.elf_model.proofs.name_hash.NameHasherHasher.write.Given as goal

abbrev pub invariant-loop-n : goal.invariant-loop-n
invariant-loop-n l = l.state ≡ blocks l.self.secret l.bytes l.initial.state l.n
