use Rattle.std.proofs.Common.{◌∙◌, List, ℕ, ap}
use Rattle.std.specs.BTreeMap.{BTreeMap}
use Rattle.std.specs.Borrow.{Bor}
use Rattle.elf_model.specs.Link.Commons.{block_named}
use Rattle.layout.specs.Placements.{Basis}
use Rattle.resolve.specs.Blocks.{block_in}
use Rattle.resolve.specs.declared.blocks.Block.{Block}
use Rattle.layout.proofs.placement.Placement.named_block.Goals as goal

pub returns : goal.returns
returns c =
    c.block_in.ensures
    ∙ (ap (λ (index : BTreeMap (Bor (List ℕ)) Block). block_in index c.args.name.now) c.deref.ensures
    ∙ (c.self.invariant.1 c.args.name.now ∙ ap (λ (b : Basis). block_named b.objects c.args.name.now) c.self.view_is))
