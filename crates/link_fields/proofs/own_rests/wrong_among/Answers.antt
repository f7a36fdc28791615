use Rattle.std.proofs.Common.{◌∙◌, ap}
use Rattle.std.specs.Prelude.{All}
use Rattle.check_load.specs.Views.{loaded_views}
use Rattle.link_fields.specs.Parts.{Parts}
use Rattle.link_fields.proofs.FieldParts.{same_fields}
use Rattle.check_link.specs.Views.{placed_view}
use Rattle.check_link.specs.declared.things.Placed.{Placed}
use Rattle.elf_model.proofs.Rests.{all_more}
use Rattle.link_fields.specs.Rests.{HoldsRestIn}
use Rattle.link_fields.proofs.own_rests.wrong_among.Goals as goal

pub loop-q-preserved : goal.loop-q-preserved
loop-q-preserved c = (
  all_more (All (λ (r : Placed). HoldsRestIn c.args.parts.now c.args.drops.now (placed_view r)) c.args.placed.now)
      (λ (r : Placed). HoldsRestIn c.args.parts.now c.args.drops.now (placed_view r)) c.args.placed.now c.loop-q.q-index _ c.loop-q-test.true
      (c.in_ok-holds_own_rest.ensures.0 c.if-not-branch.false) c.loop-q.invariant.0,
  same_fields (loaded_views c.objects-objects.result.now) c.args.parts.now.objects _ _ c.in_ok-fields-2.fields.row.items
      (c.objects-objects.ensures ∙ ap (λ (p : Parts). p.objects) c.parts.view_is) c.in_ok-fields-2.ensures.object c.in_ok-fields-2.ensures.row,
)
