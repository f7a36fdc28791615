use Rattle.explain.specs.Places.{OfLoaded}
use Rattle.explain.proofs.wanted.add_unfit.Goals as goal

pub returns : goal.returns
returns c = c.add.ensures (OfLoaded c.args.loaded.now) c.requires.before c.unfit_entry.ensures
