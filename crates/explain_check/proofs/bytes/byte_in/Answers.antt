use Rattle.std.proofs.Common.{◌∙◌, arith}
use Rattle.std.specs.Prelude.{slice_index}
use Rattle.byteview.proofs.NumberLaws.{low_first_is}
use Rattle.checker.proofs.Spelled.{take-little}
use Rattle.explain_check.proofs.bytes.byte_in.Goals as goal

pub returns : goal.returns
returns c =
    let f = c.args.field.now in
    let wide = c.if-field-gt8.false in
    c.byte_of.ensures
    ∙ (λ i. slice_index ((c.split_at.ensures.front ∙ take-little f.width f.value _ (c.to_le_bytes-spelled.ensures ∙ low_first_is 8 f.value) (omega (arith, wide))) i) (c.saturating_sub.ensures i))
