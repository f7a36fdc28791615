use Rattle.std.proofs.lemmas.List.Elements.{All-push}
use Rattle.explain.specs.Flawed.{flaw_of}
use Rattle.explain.specs.Places.{IsSo, OfLoaded}
use Rattle.explain.proofs.FlawPlaces.{one_more}
use Rattle.explain.proofs.flaw_places.places_of.Goals as goal

pub loop-flaw-preserved : goal.loop-flaw-preserved
loop-flaw-preserved c =
    let p = c.place_of.result in
    record {
      so = rw c.in_ok-push.ensures.items (All-push (IsSo (OfLoaded c.args.loaded.now)) _ p c.loop-flaw.invariant.so c.place_of.ensures.so);
      flaws = one_more flaw_of c.loop-flaw.places.items c.push.new.self.items p c.args.flaws.now c.loop-flaw.flaw-index _ c.loop-flaw-test.true c.in_ok-push.ensures.items c.loop-flaw.invariant.flaws c.place_of.ensures.flaw;
    }
