use Rattle.command.specs.Views.{source_of, texts_of}
use Rattle.command.specs.declared.items.Item.{Item}
use Rattle.elf_model.specs.Inputs.Command.{paths_of}
use Rattle.std.proofs.Common.{arith}
use Rattle.command.proofs.Distinct.{item_more}
use Rattle.command.proofs.paths.add_items.Goals as goal

pub loop-item-preserved : goal.loop-item-preserved
loop-item-preserved c =
    item_more (λ (i : Item). paths_of (texts_of c.args.directories.now) (source_of i.source)) c.args.items.now c.loop-item.item-index _ _ _ _ (omega arith) c.in_ok-add_source.ensures c.loop-item.invariant
