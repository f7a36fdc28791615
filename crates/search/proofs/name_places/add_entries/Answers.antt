use Rattle.std.proofs.Common.{◌≡◌, true}
use Rattle.elf_model.specs.Inputs.ArchiveFile.{IndexEntry}
use Rattle.search.specs.Places.{has_place}
use Rattle.search.proofs.PlaceLaws.{all_of, has_new, one_more, places_stay}
use Rattle.search.proofs.name_places.add_entries.Goals as goal

pub loop-i-preserved : goal.loop-i-preserved
loop-i-preserved c =
    let old = c.loop-i.names.entries in
    let new = c.add_place.new.names.entries in
    let k = c.args.archive in
    let name = c.name.result.now in record {
      placed =
          one_more (λ q (e : IndexEntry). has_place old e.name k q ≡ true) (λ q (e : IndexEntry). has_place new e.name k q ≡ true) c.args.entries.now c.loop-i.i c.index-entries-i.result
          c.index-entries-i.is (λ q e there. places_stay old new name k c.loop-i.i c.in_ok-add_place.ensures e.name k q there)
          (has_new old new name k c.loop-i.i c.in_ok-add_place.ensures c.index-entries-i.result.name c.name.ensures) c.loop-i.invariant.placed;
      stays = λ n j q there. places_stay old new name k c.loop-i.i c.in_ok-add_place.ensures n j q (c.loop-i.invariant.stays n j q there);
    }

pub returns-clause-placed : goal.returns-clause-placed
returns-clause-placed c =
    all_of (λ q (e : IndexEntry). has_place c.loop-i.names.entries e.name c.args.archive q ≡ true) c.args.entries.now c.loop-i.i c.loop-i-test.false c.loop-i.invariant.placed
