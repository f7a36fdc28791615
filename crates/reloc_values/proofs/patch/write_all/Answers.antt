use Rattle.std.proofs.Common.{arith, ◌∙◌}
use Rattle.reloc_values.proofs.Overlaid.{one_more}
use Rattle.reloc_values.specs.declared.patch.Patch.{Patch}
use Rattle.reloc_values.proofs.patch.write_all.Goals as goal

null_patch : Patch
null_patch = record { at = 0; value = 0; width = 0 }

pub loop-patch-preserved : goal.loop-patch-preserved
unfolding null_patch
loop-patch-preserved c = λ k low.
    one_more c.args.from c.loop-patch.bytes c.write.new.bytes c.args.patches.now c.loop-patch.patch-index k null_patch c.loop-patch-test.true c.requires.apart
    (c.write.ensures k (omega arith))
    ∙ c.loop-patch.invariant k (omega arith)
