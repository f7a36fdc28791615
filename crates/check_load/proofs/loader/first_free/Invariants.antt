use Rattle.std.proofs.Common.{◌≡◌, ℕ, true}
use Rattle.check_load.specs.Awake.{awake_count, is_awake}
use Rattle.check_load.specs.Loaders.{AreFreeAwake}
use Rattle.check_load.proofs.loader.first_free.Given as goal

abbrev pub invariant-loop-i : goal.invariant-loop-i
invariant-loop-i l = record {
  awake : AreFreeAwake l.names l.taken l.item l.entries l.awake;
  others : (i q : ℕ) → (i ≡ l.item → ⊥) → is_awake l.fn.awake i q ≡ true → is_awake l.awake i q ≡ true;
}

abbrev pub decreases-loop-i : goal.decreases-loop-i
decreases-loop-i l = awake_count l.awake
