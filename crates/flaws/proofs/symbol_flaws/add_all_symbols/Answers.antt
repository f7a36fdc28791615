use Rattle.std.proofs.Common.{◌+◌}
use Rattle.elf_model.specs.Link.Resolution.{all_symbols}
use Rattle.search.specs.Views.{loaded_views}
use Rattle.resolve.proofs.Walks.{next_object, symbols_here, symbols_left}
use Rattle.flaws.specs.Flaws.{AddsSymbol, AreAdded}
use Rattle.flaws.proofs.Additions.{some_more}
use Rattle.flaws.proofs.symbol_flaws.add_all_symbols.Goals as goal

pub loop-k-preserved : goal.loop-k-preserved
loop-k-preserved g c =
    let xs = c.args.objects.now in
    let objects = loaded_views xs in
    let k = c.loop-k.k in
    let one = c.index-objects-k.result in
    some_more (AddsSymbol objects) (AreAdded (AddsSymbol objects) (all_symbols objects) c.args.flaws.now.items) (symbols_left k xs) (symbols_left (k + 1) xs)
    c.loop-k.flaws.items c.add_symbols.new.flaws.items c.loop-k.invariant (symbols_here k one)
    (next_object xs k one c.loop-k-test.true c.index-objects-k.is) c.in_ok-add_symbols.ensures
