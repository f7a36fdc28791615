use Rattle.std.proofs.Common.{◌≡◌, ◌||◌, ℕ, drop}
use Rattle.std.specs.List.{list_any}
use Rattle.check_load.specs.Awake.{is_awake, is_place}
use Rattle.check_load.proofs.awake_entries.Awake.wake_all.Given as goal

abbrev pub invariant-loop-place : goal.invariant-loop-place
invariant-loop-place l =
    (i q : ℕ) → (list_any (is_place i q) (drop l.place-index l.places) || is_awake l.self i q) ≡ (list_any (is_place i q) l.places || is_awake l.fn.self i q)
