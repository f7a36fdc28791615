use Rattle.std.proofs.Common.{◌+◌, ◌^◌, ◌∙◌, ap, arith}
use Rattle.std.specs.Prelude.{min}
use Rattle.judge_model.specs.Fields.{place_start, place_width}
use Rattle.memory_judge.specs.declared.rests.FieldSpan.{FieldSpan}
use Rattle.input_judge.proofs.WholeLaws.{inside_by, key_at}
use Rattle.input_judge.proofs.whole_code.is_broken.Goals as goal

pub returns : goal.returns
returns c = λ r ss entry section same short.
    let place = c.place_of-place.ensures r entry in
    let at = ap (λ (s : FieldSpan). s.at) place in
    let width = ap (λ (s : FieldSpan). s.width) place in
    inside_by r ss c.args.points.now same short c.key_of-low.result c.key_of.result
    (c.key_of-low.ensures ∙ key_at c.args.section c.place_of-place.result.at r.section (place_start r) section at)
    (c.key_of.ensures ∙ key_at c.args.section c.min.result r.section (min (place_start r + place_width r) (2 ^ 64)) section
    (c.min.ensures ∙ omega (arith, at, width)))
    c.has_between.result c.has_between.ensures
