use Rattle.explain_check.proofs.found.Found.add_table.Goals as goal

pub returns : goal.returns
returns c =
    let s = c.args.bound.now in
    let first = c.in_ok-add_some.ensures s c.requires.before c.other_number.ensures in
    let second = c.in_ok-add_some-2.ensures s first c.other_number-2.ensures in
    let third = c.in_ok-add_some-3.ensures s second c.other_number-3.ensures in
    c.add_some-4.ensures s third c.wrong_tail.ensures
