use Rattle.std.proofs.Common.{◌≡◌, ◌%◌, ◌<◌, arith}
use Rattle.merge_judge.proofs.UnitLaws.{before_last, is_before_last}
use Rattle.merge_judge.proofs.units.ends_string.Goals as goal

pub returns : goal.returns
returns c =
    let e = c.args.e in
    let size = c.args.size in
    let more : 0 < size = omega (arith, c.if-size-eq0.false) in
    let whole : size % e ≡ 0 = omega (arith, c.if-size-e-ne0.false) in (
      λ t. record {
        some = more;
        units = whole;
        last = c.is_zero_unit.ensures.0 c.if-not-is_zero_unit.false;
        whole = λ j less. c.has_no_zero.ensures.0 t j (is_before_last e size c.requires.some whole j less);
      },
      λ r. c.has_no_zero.ensures.1 (λ j low. r.whole j (before_last e size c.requires.some whole j low)),
    )
