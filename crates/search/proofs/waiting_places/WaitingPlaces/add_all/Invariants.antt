use Rattle.std.proofs.Common.{◌≡◌, ◌||◌, ℕ, drop}
use Rattle.std.specs.List.{list_any}
use Rattle.search.specs.Places.{is_place, is_waiting}
use Rattle.search.proofs.waiting_places.WaitingPlaces.add_all.Given as goal

abbrev pub invariant-loop-place : goal.invariant-loop-place
invariant-loop-place l =
    (k q : ℕ) → (list_any (is_place k q) (drop l.place-index l.places) || is_waiting l.self k q) ≡ (list_any (is_place k q) l.places || is_waiting l.fn.self k q)
