use Rattle.std.proofs.Common.{◌<◌, subst}
use Rattle.std.specs.List.{All}
use Rattle.elf_model.proofs.Rests.{all_more}
use Rattle.elf_model.specs.Inputs.ObjectFile.{null_symbol}
use Rattle.check_link.specs.Soundness.{IsSoundEntry}
use Rattle.check_link.proofs.commons.all_sound.Goals as goal

pub loop-j-preserved : goal.loop-j-preserved
loop-j-preserved c =
    let entries = c.args.entries.now in
    let within = subst (λ n. c.loop-j.j < n) c.len-j-end.ensures c.loop-j-test.true in
    let here = subst IsSoundEntry c.at.ensures (c.is_sound.ensures.0 c.if-not-is_sound.false) in
    all_more (All IsSoundEntry entries) IsSoundEntry entries c.loop-j.j null_symbol within here c.loop-j.invariant
