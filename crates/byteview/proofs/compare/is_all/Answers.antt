use Rattle.std.proofs.Common.{arith, refl, replicate}
use Rattle.byteview.proofs.Vectors.{agree_by_mask, all_by_lanes}
use Rattle.byteview.proofs.compare.is_all.Goals as goal

pub returns : goal.returns
returns c =
    let same = agree_by_mask c.args.a (replicate 16 c.args.x) 16 c.fits-a.0 refl (omega arith) in
    let all = all_by_lanes c.args.a c.args.x 16 c.fits-a.0 in
    (λ t. all.0 (same.0 t), λ a. same.1 (all.1 a))
