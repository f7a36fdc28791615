use Rattle.std.proofs.Common.{drop}
use Rattle.std.specs.Prelude.{All}
use Rattle.check_link.specs.Views.{placed_view}
use Rattle.elf_model.proofs.Rests.{Left}
use Rattle.link_fields.specs.Fields.{HasFields}
use Rattle.link_fields.specs.Rests.{HoldsRestIn}
use Rattle.link_fields.proofs.own_rests.wrong_among.Given as goal

abbrev pub invariant-loop-q : goal.invariant-loop-q
invariant-loop-q l =
    Left (All (λ r. HoldsRestIn l.parts l.drops (placed_view r)) l.placed)
    (All (λ r. HoldsRestIn l.parts l.drops (placed_view r)) (drop l.q-index l.placed))
    × HasFields l.parts.objects l.fields.object l.fields.row.items
