use Rattle.std.proofs.Common.{◌∙◌}
use Rattle.placing.specs.Views.{piece_view}
use Rattle.debug_image.proofs.section_numbers.SectionNumbers.of.Goals as goal

pub returns : goal.returns
returns c = λ count ss are own.
    c.copied.ensures ∙ (c.get.ensures.value ∙ are.firsts (piece_view c.args.piece.now) c.output_of.result c.output_of.ensures own)
