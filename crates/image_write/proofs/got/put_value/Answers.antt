use Rattle.std.proofs.Common.{◌∙◌}
use Rattle.byteview.proofs.NumberLaws.{low_first_is}
use Rattle.image_write.proofs.StreamLaws.{puts_are}
use Rattle.image_write.proofs.got.put_value.Goals as goal

pub returns : goal.returns
returns g c = puts_are _ _ _ _ _ (c.to_le_bytes.ensures ∙ low_first_is 8 c.args.value) c.put.ensures
