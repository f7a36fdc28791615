use Rattle.std.proofs.Common.{sym, ◌∙◌}
use Rattle.elf_model.proofs.FirstNamed.{first_added}
use Rattle.check_link.specs.Views.{block_view}
use Rattle.check_link.proofs.commons.add_named.Goals as goal

pub returns-in_ok-insert : goal.returns-in_ok-insert
returns-in_ok-insert c =
    first_added block_view c.args.index.now c.insert.new.self c.args.block.now.name.now c.args.block.now
    (sym c.contains_key.ensures ∙ c.if-not-contains_key.true) c.in_ok-insert.ensures.updates
