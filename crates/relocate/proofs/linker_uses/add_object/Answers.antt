use Rattle.search.specs.Views.{loaded_view}
use Rattle.relocate.proofs.LinkerMeanings.{no_gain}
use Rattle.relocate.proofs.linker_uses.add_object.Goals as goal

pub returns-then-not-has_linker_use : goal.returns-then-not-has_linker_use
returns-then-not-has_linker_use c =
    no_gain c.args.resolved.now c.args.number (loaded_view c.args.loaded.now) (c.has_linker_use.ensures c.if-not-has_linker_use.true) c.args.names.now
