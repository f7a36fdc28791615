use Rattle.std.proofs.Common.{◌≡◌, ◌+◌, ◌*◌, ℕ, suc, List, arith, refl}
use Rattle.std.specs.Prelude.{bit_xor}
use Rattle.elf_model.specs.NameHash.{blocks, mixed, word}
use Rattle.elf_model.proofs.name_hash.NameHasherHasher.write.Goals as goal

-- one block more
one_more : (secret n before after : ℕ) (bytes : List ℕ) (start first second : ℕ) → before ≡ blocks secret bytes start n → first ≡ word bytes (16 * n) → second ≡ word bytes (16 * n + 8) → after ≡ mixed (bit_xor before first) (bit_xor secret second) → after ≡ blocks secret bytes start (n + 1)
unfolding blocks
one_more secret n before after bytes start first second b f s a =
    let next : n + 1 ≡ suc n = omega arith in rw (next, ← b, ← f, ← s) a

pub loop-n-init : goal.loop-n-init
unfolding blocks
loop-n-init c = refl

pub loop-n-preserved : goal.loop-n-preserved
loop-n-preserved c = one_more _ _ _ _ _ _ _ _ c.loop-n.invariant c.word-first.ensures c.word-second.ensures c.mixed-state.ensures
