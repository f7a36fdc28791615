use Rattle.std.proofs.Common.{◌∙◌}
use Rattle.byteview.proofs.NumberLaws.{length-le_bytes, low_first_is}
use Rattle.byteview.specs.Numbers.{le_bytes}
use Rattle.checker.proofs.Spelled.{take-little}
use Rattle.checker.proofs.Sweeping.{value_parts}
use Rattle.checker.proofs.c10_bytes.has_spelled_value.Goals as goal

pub returns : goal.returns
returns c =
    let f = c.args.field.now in
    let both =
    value_parts c.args.held.now c.sub_part.result.now c.split_at.result.0.now (le_bytes f.width f.value) f.at f.width c.sub_part.ensures.short
    c.sub_part.ensures.same (c.split_at.ensures.front ∙ take-little f.width f.value _ (c.to_le_bytes-spelled.ensures ∙ low_first_is 8 f.value) c.requires) (length-le_bytes f.width f.value) in (
      λ e. both.0 (c.same_padded.ensures.0 e),
      λ h. c.same_padded.ensures.1 (both.1 h),
    )
