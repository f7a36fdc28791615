use Rattle.std.proofs.Common.{◌≡◌, ◌++◌, drop, map}
use Rattle.foreign_words.specs.Says as says
use Rattle.place_judge.specs.Places as places
use Rattle.link_judge.proofs.f03_placed.starts_of.Given as goal

abbrev pub invariant-loop-start : goal.invariant-loop-start
invariant-loop-start l =
    map places.start_view l.all.items ++ map says.start_view (drop l.start-index l.starts) ≡ map says.start_view l.starts
