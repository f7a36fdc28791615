use Rattle.std.proofs.Common.{not, cond, ap, sym, ◌∙◌}
use Rattle.elf_model.specs.Marks.{marked}
use Rattle.check_load.proofs.SignatureLaws.{seen_unless, set_then}
use Rattle.check_load.proofs.signatures.admit_group.Goals as goal

pub returns-then-is_new-clause-marks : goal.returns-then-is_new-clause-marks
returns-then-is_new-clause-marks c =
    let g = c.args.group.now in
    let kept =
    seen_unless c.args.seen.now c.signature.result.now g c.in_ok-_number.is_new (sym c.is_comdat.ensures ∙ c.if-not-is_comdat.false) c.signature.ensures c.in_ok-_number.ensures.fresh
    ∙ ap not c.if-is_new.true in
    ap (λ b. cond b (marked c.args.marks.now g.members) c.args.marks.now) (sym kept)

pub returns-then-is_new-clause-seen : goal.returns-then-is_new-clause-seen
returns-then-is_new-clause-seen c =
    set_then c.args.seen.now c.add.new.self c.signature.result.now c.args.group.now (sym c.is_comdat.ensures ∙ c.if-not-is_comdat.false) c.signature.ensures c.in_ok-_number.ensures.added

pub returns-clause-marks : goal.returns-clause-marks
returns-clause-marks c =
    let g = c.args.group.now in
    let lost =
    seen_unless c.args.seen.now c.signature.result.now g c.in_ok-_number.is_new (sym c.is_comdat.ensures ∙ c.if-not-is_comdat.false) c.signature.ensures c.in_ok-_number.ensures.fresh
    ∙ ap not c.if-is_new.false in
    c.mark.ensures ∙ ap (marked c.args.marks.now) c.members.ensures ∙ ap (λ b. cond b (marked c.args.marks.now g.members) c.args.marks.now) (sym lost)

pub returns-clause-seen : goal.returns-clause-seen
returns-clause-seen c =
    set_then c.args.seen.now c.add.new.self c.signature.result.now c.args.group.now (sym c.is_comdat.ensures ∙ c.if-not-is_comdat.false) c.signature.ensures c.in_ok-_number.ensures.added
