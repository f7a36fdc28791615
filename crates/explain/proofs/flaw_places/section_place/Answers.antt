use Rattle.std.proofs.Common.{refl}
use Rattle.std.proofs.lemmas.Option.{slice_get_within}
use Rattle.search.specs.Views.{loaded_view}
use Rattle.explain.proofs.FlawPlaces.{section_at}
use Rattle.explain.proofs.flaw_places.section_place.Goals as goal

pub object_numbered-one-requires : goal.object_numbered-one-requires
object_numbered-one-requires c = slice_get_within c.args.loaded.now.objects c.args.k c.requires.o c.requires.object

pub returns-clause-so : goal.returns-clause-so
returns-clause-so c =
    section_at c.args.loaded.now.objects c.args.k c.args.i _ _ (loaded_view c.object_numbered-one.result.now) c.requires c.object_numbered-one.ensures
    c.reached.ensures refl refl c.section.ensures c.section_name.ensures
