use Rattle.std.proofs.Common.{arith}
use Rattle.elf_model.specs.Link.Commons.{is_common_symbol}
use Rattle.check_link.specs.Views.{symbol_views}
use Rattle.check_link.proofs.Asked.{kept_step}
use Rattle.check_link.proofs.commons.commons_of.Goals as goal

pub loop-i-preserved : goal.loop-i-preserved
loop-i-preserved c =
    kept_step is_common_symbol c.args.definitions.now c.loop-i.i (symbol_views c.loop-i.found.items) _ _ (omega (arith, c.loop-i-test.true, c.len-i-end.ensures)) c.in_ok-add_common.ensures c.loop-i.invariant
