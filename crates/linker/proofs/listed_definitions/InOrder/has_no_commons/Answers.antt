use Rattle.std.proofs.Common.{◌∙◌, sym}
use Rattle.resolve.specs.Chosen.{defined_in}
use Rattle.linker.proofs.InOrderLaws.{no_blocks, no_commons}
use Rattle.linker.proofs.listed_definitions.InOrder.has_no_commons.Goals as goal

pub returns : goal.returns
returns c =
    λ is base objects.
    no_commons c.args.self.now.resolved.now (sym c.blocks-2.ensures.exact ∙ no_blocks c.blocks-2.result.now (sym c.is_empty.ensures ∙ is)) base objects
    (defined_in c.args.self.now.names.symbols) c.args.self.now.names.linkers.now c.args.self.now.keys.items
