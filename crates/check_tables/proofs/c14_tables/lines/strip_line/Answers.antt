use Rattle.std.proofs.Common.{◌++◌, List, subst, sym}
use Rattle.std.specs.Prelude.{◌↔◌, IsSomeAnd}
use Rattle.elf_model.specs.Link.Meaning.{Meaning}
use Rattle.check_tables.specs.Tabled.{AreLeft}
use Rattle.check_tables.proofs.c14_tables.lines.strip_line.Goals as goal

pub returns-in-Some-clause-left : goal.returns-in-Some-clause-left
returns-in-Some-clause-left c = λ ms others.
    let w = c.args.bindings.now.places in
    let l = c.args.left in
    let t = c.in-Some.ensures.some in
    subst
    (λ (ds : List Meaning).
    AreLeft w l.entries.now l.names.now l.name_at (ds ++ ms) others ↔ IsSomeAnd c.strip_entry.result (λ r. AreLeft w r.entries.now r.names.now r.name_at ms others))
    (sym t.tabled_is)
    (c.strip_entry.ensures.left w t.meaning ms others t.entry_is t.named)
