use Rattle.std.proofs.Common.{arith, ltb}
use Rattle.std.proofs.lemmas.Bool.{ltb-false}
use Rattle.linkmap.proofs.PlainVectors.{clear_lanes_behind}
use Rattle.linkmap.proofs.names.none_above.Goals as goal

pub returns : goal.returns
returns c = λ t k d low.
    ltb-false _ _ (clear_lanes_behind ltb c.args.most 16 c.args.bytes c.fits-bytes.0 (omega arith) t k d low)
