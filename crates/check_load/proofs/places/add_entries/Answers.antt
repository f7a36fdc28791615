use Rattle.std.proofs.Common.{arith}
use Rattle.std.proofs.lemmas.Option.{slice_get_within}
use Rattle.check_load.proofs.PlaceLaws.{entries_step, had}
use Rattle.check_load.proofs.places.add_entries.Goals as goal

pub loop-i-preserved : goal.loop-i-preserved
loop-i-preserved c = record {
  sized = c.in_ok-add_place.ensures.sized;
  placed =
      entries_step c.loop-i.names c.add_place.new.names c.args.entries.now c.loop-i.i c.args.item c.index-entries-i.result c.name.result.now c.index-entries-i.is
      c.name.ensures c.in_ok-add_place.ensures.places c.loop-i.invariant.placed;
  stays = λ n i q there.
      had c.loop-i.names c.add_place.new.names c.name.result.now (c.args.item, c.loop-i.i) c.in_ok-add_place.ensures.places n i q (c.loop-i.invariant.stays n i q there);
}

pub returns-clause-placed : goal.returns-clause-placed
returns-clause-placed c = λ q e at.
    let n = slice_get_within c.args.entries.now q e at in
    let m = c.loop-i-test.false in
    c.loop-i.invariant.placed q e (omega (arith, n, m)) at

pub returns-clause-stays : goal.returns-clause-stays
returns-clause-stays c = c.loop-i.invariant.stays
