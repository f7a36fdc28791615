use Rattle.std.proofs.Common.{◌≡◌, Some, subst}
use Rattle.std.specs.Prelude.{IfSome, slice_get}
use Rattle.check_load.specs.Views.{loaded_views}
use Rattle.elf_model.specs.Link.Loading.{LoadedObject}
use Rattle.check_link.specs.Slots.{Slots, line_of, name_request}
use Rattle.check_link.proofs.PositionSteps.{noted_line}
use Rattle.check_link.proofs.slots.SlotTable.noted.Goals as goal

pub returns : goal.returns
returns c =
    let t = c.self.inside in
    subst
    (λ (v : Slots). IfSome c.at.result (λ i. (o : LoadedObject) → slice_get v.objects c.args.object ≡ Some o → line_of v.rows (name_request c.args.thread o c.args.symbol) ≡ Some i))
    c.self.view_is
    (noted_line t.numbering.names.now _ t.positions (loaded_views t.numbering.objects.now) c.args.object c.args.symbol c.args.thread c.in_ok-number.number c.at.result
    c.self.invariant.index c.in_ok-number.ensures c.at.ensures)
