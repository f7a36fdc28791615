use Rattle.std.proofs.Common.{◌+◌, ◌∷◌, []}
use Rattle.check_relocs.specs.Referrers.{entry_here}
use Rattle.checker.proofs.RisingFields.{if_told, matched_one, narrow}
use Rattle.checker.specs.Rising.{MatchesOn}
use Rattle.checker.proofs.rising_fields.end_of_field.Goals as goal

pub follows-requires : goal.follows-requires
follows-requires c =
    let h = c.args.here.now in
    narrow h (entry_here h c.args.rela.now.target c.args.entry) c.in-Some.field c.in-Some.ensures.field c.in-Some.ensures.right

pub returns-clause-matched : goal.returns-clause-matched
returns-clause-matched c =
    let h = c.args.here.now in
    let x = entry_here h c.args.rela.now.target c.args.entry in
    if_told (MatchesOn h c.args.held.now c.args.bytes.now c.args.from (x ∷ [])) c.checked_add.result _ (c.in-Some.field.at + c.in-Some.field.width)
    c.checked_add.ensures
    (matched_one h c.args.held.now c.args.bytes.now c.args.from x c.in-Some.field c.in-Some.ensures.field (c.follows.ensures c.if-not-follows.false))
