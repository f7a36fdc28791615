use Rattle.std.proofs.Common.{subst}
use Rattle.std.specs.Prelude.{OnOk}
use Rattle.elf_model.specs.Inputs.Opening.{Opened}
use Rattle.item_flaws.specs.ItemFlaws.{AddsUnreadable}
use Rattle.item_flaws.proofs.objects.add_item.Goals as goal

pub returns : goal.returns
returns c =
    subst (λ (o : Opened). OnOk c.add_opened.result (AddsUnreadable c.args.stop o c.args.flaws.now.items c.add_opened.new.flaws.items)) c.in_ok-opened.ensures.opened
    c.add_opened.ensures
