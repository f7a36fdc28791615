use Rattle.std.proofs.Common.{◌∙◌, ap}
use Rattle.resolve.specs.Views.{meaning_views}
use Rattle.debug_image.specs.SectionViews.{section_views}
use Rattle.debug_image.proofs.LinkTables.{tables_are}
use Rattle.debug_image.proofs.link_tables.tables_of.Goals as goal

pub returns : goal.returns
returns c =
    tables_are c.args.wanted c.args.linkage.now.plan.base c.args.linkage.now.objects (meaning_views c.args.listed.now) _ _ _ _ _ _
    c.in_ok-tables.ensures (ap section_views c.deref-3.ensures.value ∙ c.in_ok-found.ensures) c.layout_of-layout.ensures.laid
    c.in_ok-symbols.ensures.rows c.in_ok-symbols.ensures.locals
