use Rattle.std.proofs.Common.{arith, ltb}
use Rattle.std.proofs.lemmas.Bool.{ltb-false}
use Rattle.linkmap.proofs.PlainVectors.{clear_lanes}
use Rattle.linkmap.proofs.names.none_below.Goals as goal

pub returns : goal.returns
returns c = λ t k d low.
    ltb-false _ _ (clear_lanes ltb c.args.least 16 c.args.bytes c.fits-bytes.0 (omega arith) t k d low)
