use Rattle.std.proofs.Common.{subst}
use Rattle.std.specs.Prelude.{OnOk}
use Rattle.elf_model.specs.Inputs.Opening.{Opened}
use Rattle.item_flaws.specs.ItemFlaws.{AddsUnsearchable}
use Rattle.item_flaws.proofs.archives.add_item.Goals as goal

pub returns : goal.returns
returns c =
    subst (λ (o : Opened). OnOk c.add_opened.result (AddsUnsearchable o c.args.flaws.now.items c.add_opened.new.flaws.items)) c.in_ok-opened.ensures.opened
    c.add_opened.ensures
