use Rattle.std.proofs.Math.Nat.{pos_of_dvd_of_pos}
use Rattle.std.proofs.lemmas.Bool.{eq-eqb, eqb-true}
use Rattle.std.proofs.lemmas.Nat.Gcd.{dvd_of_mod-eq-zero, dvd_trans, mod-eq-zero_of_dvd}
use Rattle.merge_judge.proofs.alignment.is_aligned_like.Goals as goal

pub nonzero_rem-result : goal.nonzero_rem-result
nonzero_rem-result c = pos_of_dvd_of_pos c.gcd.ensures.0 c.requires

pub returns : goal.returns
returns c = (
  λ t d p q. dvd_trans d (c.gcd.ensures.2 d p q) (dvd_of_mod-eq-zero c.gcd.result (eqb-true _ _ t)),
  λ like. eq-eqb _ _ (mod-eq-zero_of_dvd c.gcd.result (like c.gcd.result c.gcd.ensures.0 c.gcd.ensures.1)),
)
