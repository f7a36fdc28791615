use Rattle.std.proofs.Common.{◌∙◌, ap, sym, take}
use Rattle.check_link.proofs.RunParts.{part_from_same, same_from_part}
use Rattle.check_link.proofs.same_runs.same_block.Goals as goal

pub returns : goal.returns
returns c =
    let a = c.args.a.now in
    let b = c.args.b.now in
    let at = c.args.at in
    let one = ap (take 32) c.split_at.ensures.back in
    let other = ap (take 32) c.split_at-2.ensures.back in (
      λ e. same_from_part a b at 32 (sym one ∙ (c.agree.ensures.0 e ∙ other)),
      λ same. c.agree.ensures.1 (one ∙ (part_from_same a b at 32 c.requires.a c.requires.b same ∙ sym other)),
    )
