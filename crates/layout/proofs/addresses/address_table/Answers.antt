use Rattle.std.proofs.Common.{ℕ, ◌-◌, ◌<◌, List, arith, get_or, subst, sym}
use Rattle.elf_model.proofs.Listed.{All-unmap}
use Rattle.search.specs.Views.{loaded_views}
use Rattle.layout.specs.Addresses.{HasPlace, piece_counts}
use Rattle.placing.specs.PlaceViews.{place_view}
use Rattle.placing.proofs.RunSteps.{no_place}
use Rattle.layout.proofs.addresses.address_table.Goals as goal

pub put_address-requires-clause-there : goal.put_address-requires-clause-there
put_address-requires-clause-there c =
    let k = c.loop-left.left - 1 in
    subst (λ (counts : List ℕ). HasPlace counts (place_view (get_or c.args.places.now k no_place))) (sym c.loop-left.invariant.shape)
    (All-unmap (HasPlace (piece_counts (loaded_views c.args.objects.now) c.args.blocks)) place_view c.args.places.now c.requires.there k no_place
    (let low = c.loop-left.invariant.low in let t = c.loop-left-test.true in omega (arith, low, t)))

pub put_address-requires-clause-some : goal.put_address-requires-clause-some
put_address-requires-clause-some c =
    All-unmap (λ q. 0 < q.at) place_view c.args.places.now c.requires.some (c.loop-left.left - 1) no_place
    (let low = c.loop-left.invariant.low in let t = c.loop-left-test.true in omega (arith, low, t))
