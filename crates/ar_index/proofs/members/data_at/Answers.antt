use Rattle.std.proofs.Common.{Some, ap, sym, ◌∙◌}
use Rattle.std.proofs.lemmas.Bool.{ltb-true}
use Rattle.ar_index.proofs.Places.{none_from, none_here, one_here}
use Rattle.ar_index.proofs.members.data_at.Goals as goal

pub returns-in_err-member : goal.returns-in_err-member
returns-in_err-member c =
    c.from_residual.ensures
    ∙ sym (none_from c.args.members.now c.args.offset c.begun_before.result c.in_err-member.ensures.lookup.3 c.begun_before.ensures.before)

pub returns-then-offset : goal.returns-then-offset
returns-then-offset c =
    let lookup = c.in_ok-member.ensures.lookup in
    sym (none_here c.args.members.now c.args.offset c.begun_before.result c.in_ok-member.member.now c.begun_before.ensures.before
    (ltb-true c.begun_before.result _ (sym lookup.0)) lookup.1 c.requires c.begun_before.ensures.from (λ e. c.if-offset.true (c.offset.ensures ∙ e)))

pub returns : goal.returns
returns c =
    let lookup = c.in_ok-member.ensures.lookup in
    ap Some (c.new.ensures ∙ c.bytes.ensures)
    ∙ sym (one_here c.args.members.now c.args.offset c.begun_before.result c.in_ok-member.member.now c.begun_before.ensures.before
    (ltb-true c.begun_before.result _ (sym lookup.0)) lookup.1 (sym c.offset.ensures ∙ c.if-offset.false))
