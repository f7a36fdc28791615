use Rattle.std.proofs.Common.{◌∙◌, ap}
use Rattle.elf_model.specs.Link.Resolution.{all_symbols}
use Rattle.check_load.specs.Views.{loaded_views}
use Rattle.check_link.specs.Views.{symbol_views}
use Rattle.check_link.proofs.Asked.{asked_of_all, blocks_chosen}
use Rattle.check_link.proofs.commons.blocks_of.Goals as goal

pub add_blocks-requires-clause-asked : goal.add_blocks-requires-clause-asked
add_blocks-requires-clause-asked c =
    asked_of_all c.in_ok-asked.asked (symbol_views c.deref.result.now) c.args.definitions.now (all_symbols (loaded_views c.args.objects.now))
    (ap symbol_views c.deref.ensures.value ∙ c.in_ok-commons.ensures) c.requires.definitions c.in_ok-asked.ensures

pub returns : goal.returns
returns c =
    c.in_ok-blocks.ensures
    ∙ blocks_chosen (loaded_views c.args.objects.now) c.args.chosen.now c.args.definitions.now (symbol_views c.deref-2.result.now)
    c.requires.chosen c.requires.definitions (ap symbol_views c.deref-2.ensures.value ∙ c.in_ok-commons.ensures)
