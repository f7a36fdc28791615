use Rattle.unread_law.proofs.Files.{loads_the_same}
use Rattle.unread_law.proofs.RightLinks.{right_links_too}
use Rattle.unread_law.proofs.loading_looks_only_where_it_must.Goals as goal

pub returns-clause-loading : goal.returns-clause-loading
returns-clause-loading c = loads_the_same

pub returns-clause-links : goal.returns-clause-links
returns-clause-links c = right_links_too
