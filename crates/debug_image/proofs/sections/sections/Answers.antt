use Rattle.std.proofs.Common.{rules}
use Rattle.placing.proofs.RunSteps.{no_place}
use Rattle.debug_image.proofs.SectionSteps.{low_at, low_rest}
use Rattle.debug_image.proofs.sections.sections.Goals as goal

pub begun-requires : goal.begun-requires
begun-requires c = low_at c.args.places.now c.requires 0 no_place (search rules)

pub add_sections-requires : goal.add_sections-requires
add_sections-requires c = low_rest c.args.places.now c.split_at.result.1.now 1 c.requires c.split_at.ensures.back
