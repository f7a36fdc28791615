use Rattle.search.specs.Views.{loaded_view}
use Rattle.wrong_references.specs.References.{told_by}
use Rattle.wrong_references.proofs.Undefined.{seen_more, still_seen}
use Rattle.wrong_references.proofs.relocation_flaws.add_undefined.Goals as goal

pub returns-then-j-len-clause-seen : goal.returns-then-j-len-clause-seen
returns-then-j-len-clause-seen g c =
    seen_more (loaded_view c.args.one.now) c.args.seen.now.items (told_by c.args.flaws.now.items (g.T.NameTable.rows c.args.names.now))
    (told_by c.add_name.new.flaws.items (g.T.NameTable.rows c.add_name.new.names)) c.args.j c.in_ok-i.i c.args.flaw c.in_ok-i.ensures.told
    c.in_ok-i.ensures.first c.requires

pub returns-else-j-len-clause-seen : goal.returns-else-j-len-clause-seen
returns-else-j-len-clause-seen g c =
    still_seen (loaded_view c.args.one.now) c.args.seen.now.items (told_by c.args.flaws.now.items (g.T.NameTable.rows c.args.names.now))
    (told_by c.add_name.new.flaws.items (g.T.NameTable.rows c.add_name.new.names)) c.args.j c.args.flaw c.in_ok-i.ensures.told c.requires
