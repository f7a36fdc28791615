use Rattle.std.proofs.Common.{◌∙◌, arith, sym, true}
use Rattle.check_link.specs.Chosen.{is_of_rank, position_in}
use Rattle.check_load.proofs.NumberedNames.{kept_on}
use Rattle.check_link.proofs.Hints.{still_hinted}
use Rattle.check_link.proofs.Positions.{position_skip, position_step}
use Rattle.check_link.proofs.chosen_definitions.add_first.Goals as goal

pub loop-i-preserved : goal.loop-i-preserved
loop-i-preserved c =
    let xs = c.args.definitions.now in
    record {
      sized = c.in_ok-add_position.ensures.sized;
      kept = kept_on _ _ _ c.loop-i.invariant.kept c.in_ok-add_position.ensures.kept;
      hinted = still_hinted _ _ c.args.objects.now xs c.in_ok-add_position.ensures.kept c.loop-i.invariant.hinted;
      own = λ h. c.in_ok-add_position.ensures.own (c.loop-i.invariant.own h);
      positions = λ name.
          position_step (is_of_rank c.args.rank) name xs c.loop-i.i true (position_in c.loop-i.index name) (position_in c.add_position.new.index name) _ (omega (arith, c.loop-i-test.true, c.len-i-end.ensures))
          (sym (sym c.is_ranked.ensures ∙ c.if-not-is_ranked.false)) (c.in_ok-add_position.ensures.positions name) (c.loop-i.invariant.positions name);
    }

pub loop-i-preserved-then-not-is_ranked : goal.loop-i-preserved-then-not-is_ranked
loop-i-preserved-then-not-is_ranked c =
    record {
      sized = c.loop-i.invariant.sized;
      kept = c.loop-i.invariant.kept;
      hinted = c.loop-i.invariant.hinted;
      own = c.loop-i.invariant.own;
      positions = λ name.
          position_skip (is_of_rank c.args.rank) name c.args.definitions.now c.loop-i.i (position_in c.loop-i.index name) _ (omega (arith, c.loop-i-test.true, c.len-i-end.ensures))
          (sym c.is_ranked.ensures ∙ c.if-not-is_ranked.true) (c.loop-i.invariant.positions name);
    }
