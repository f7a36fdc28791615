use Rattle.std.proofs.Common.{refl}
use Rattle.search.specs.Views.{loaded_view}
use Rattle.explain.proofs.FlawPlaces.{symbol_at, symbol_within}
use Rattle.explain.proofs.flaw_places.symbol_place.Goals as goal

pub object_numbered-one-requires : goal.object_numbered-one-requires
object_numbered-one-requires c = symbol_within c.args.loaded.now.objects c.args.fault c.args.k c.args.j c.requires

pub returns-clause-so : goal.returns-clause-so
returns-clause-so c =
    symbol_at c.args.loaded.now.objects c.args.fault c.args.k c.args.j _ _ (loaded_view c.object_numbered-one.result.now) c.requires c.object_numbered-one.ensures
    c.reached.ensures refl refl c.symbol.ensures c.symbol_name.ensures
