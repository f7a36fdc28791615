use Rattle.loader_model.proofs.Pages.{pages_apart}
use Rattle.loader_model.proofs.table.share_no_page.Goals as goal

pub returns : goal.returns
returns c =
    pages_apart c.args.segments.now _ c.requires.on_pages c.requires.ascending c.end_before_the_next.ensures
