use Rattle.std.proofs.Common.{◌∙◌, arith, length, ap}
use Rattle.elf_read.proofs.KeptRelas.{kept_more}
use Rattle.elf_read.proofs.object.read_relas.Goals as goal

pub loop-i-preserved : goal.loop-i-preserved
loop-i-preserved c =
    let count = c.len-count.ensures ∙ ap (λ ss. length ss) c.sections.ensures in
    let within = c.loop-i-test.true in
    kept_more c.args.file.now c.loop-i.relas.items c.push.new.self.items c.loop-i.i c.in_ok-entries_of.field-0 (omega (arith, count, within))
    c.loop-i.invariant c.in_ok-push.ensures.items c.in_ok-entries_of.ensures
