use Rattle.check_load.specs.declared.kept_sections.KeptRela.{KeptRela}
use Rattle.checker.proofs.RisingFields.{fields_more, right_more}
use Rattle.checker.proofs.rising_fields.end_of_fields.Goals as goal

null_rela : KeptRela
null_rela = record { number = 0; target = 0 }

pub loop-rela-preserved : goal.loop-rela-preserved
unfolding null_rela
loop-rela-preserved c =
    let h = c.args.here.now in
    let ks = c.args.relas.now in
    let i = c.loop-rela.rela-index in
    record {
      known = c.end_of_entries.ensures.kept;
      right = right_more h ks i null_rela c.loop-rela-test.true c.loop-rela.invariant.right c.in-Some.ensures.right;
      matched =
          fields_more h ks i null_rela c.loop-rela-test.true c.args.held.now c.args.bytes.now c.loop-rela.end c.in-Some.next c.loop-rela.invariant.matched
          c.in-Some.ensures.matched;
    }
