use Rattle.std.proofs.Common.{arith, eqb}
use Rattle.std.proofs.lemmas.Bool.{eqb-false}
use Rattle.linkmap.proofs.PlainVectors.{clear_lanes}
use Rattle.linkmap.proofs.names.none_is.Goals as goal

pub returns : goal.returns
returns c = λ t k d low.
    eqb-false _ _ (clear_lanes eqb c.args.other 16 c.args.bytes c.fits-bytes.0 (omega arith) t k d low)
