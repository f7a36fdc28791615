use Rattle.std.proofs.Common.{◌∙◌, ap}
use Rattle.search.specs.Views.{loaded_view}
use Rattle.relocate.specs.Uses.{is_linkers}
use Rattle.relocate.proofs.LinkerMeanings.{linker_use_at}
use Rattle.relocate.proofs.linker_uses.is_linker_use.Goals as goal

pub returns : goal.returns
returns c =
    c.is_linkers.ensures
    ∙ (ap is_linkers c.used.ensures
    ∙ linker_use_at c.args.resolved.now c.args.number (loaded_view c.args.loaded.now) c.args.j c.requires)
