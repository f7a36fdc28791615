use Rattle.std.proofs.Common.{◌∙◌, arith, sym}
use Rattle.link_fields.proofs.MergedLaws.{found_by, none_found}
use Rattle.link_fields.proofs.merged_lines.address_at.Goals as goal

pub returns-in-Some : goal.returns-in-Some
returns-in-Some c =
    let there = c.in-Some.ensures.lookup.3 in
    c.address_in.ensures
    ∙ found_by c.args.object c.args.section c.args.offset c.args.lines.now c.requires c.count_before.result c.count_before.ensures.before
    c.count_before.ensures.behind c.in-Some.line.now there.0 there.1

pub returns-in-None : goal.returns-in-None
returns-in-None c =
    sym
    (none_found c.args.object c.args.section c.args.offset c.args.lines.now c.requires c.count_before.result c.count_before.ensures.before
    c.count_before.ensures.behind (omega (arith, c.in-None.ensures.lookup.3)))
