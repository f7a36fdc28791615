use Rattle.std.proofs.Common.{◌≡◌, ◌∙◌, ap, sym, take, arith}
use Rattle.byteview.proofs.NumberLaws.{length-le_bytes, low_first_is, take-le_bytes}
use Rattle.byteview.specs.Numbers.{le_bytes, part}
use Rattle.check_link.proofs.RunParts.{part_holds, part_same}
use Rattle.checker.proofs.same_runs.has_long_value.Goals as goal

pub returns : goal.returns
returns c =
    let v = c.args.value in
    let s = c.to_le_bytes-spelled.result in
    let word : part s 0 8 ≡ le_bytes 8 v = ap (take 8) (c.to_le_bytes-spelled.ensures ∙ low_first_is 8 v) ∙ take-le_bytes 8 8 v (omega arith) in (
      λ e. part_holds c.args.held.now (le_bytes 8 v) c.args.at 8 (c.has_long.ensures.0 e ∙ word),
      λ h. c.has_long.ensures.1 (part_same c.args.held.now (le_bytes 8 v) c.args.at 8 c.requires (length-le_bytes 8 v) h ∙ sym word),
    )
