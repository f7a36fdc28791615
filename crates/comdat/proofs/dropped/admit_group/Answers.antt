use Rattle.std.proofs.Common.{not, cond, ap, sym, ◌∙◌}
use Rattle.elf_model.specs.Marks.{marked}
use Rattle.comdat.proofs.SignatureLemmas.{dropped_unless, names_inserted}
use Rattle.comdat.proofs.dropped.admit_group.Goals as goal

pub returns-then-branch-clause-marks : goal.returns-then-branch-clause-marks
returns-then-branch-clause-marks c =
    let g = c.args.group.now in
    let kept = dropped_unless g (record { 0 = c.signature.result }) c.args.signatures.now.keys c.in_ok-insert.field-0 (sym c.is_comdat.ensures ∙ c.if-not-is_comdat.false) c.signature.ensures c.in_ok-insert.ensures.added
    ∙ ap not c.if-branch.true
    in
    ap (λ b. cond b (marked c.args.marks.now g.members) c.args.marks.now) (sym kept)

pub returns-then-branch-clause-seen : goal.returns-then-branch-clause-seen
returns-then-branch-clause-seen c =
    names_inserted c.args.group.now (record { 0 = c.signature.result }) c.args.signatures.now.keys c.insert.new.self.keys (sym c.is_comdat.ensures ∙ c.if-not-is_comdat.false) c.signature.ensures c.in_ok-insert.ensures.keys

pub returns-clause-marks : goal.returns-clause-marks
returns-clause-marks c =
    let g = c.args.group.now in
    let dropped = dropped_unless g (record { 0 = c.signature.result }) c.args.signatures.now.keys c.in_ok-insert.field-0 (sym c.is_comdat.ensures ∙ c.if-not-is_comdat.false) c.signature.ensures c.in_ok-insert.ensures.added
    ∙ ap not c.if-branch.false
    in
    c.mark.ensures ∙ ap (marked c.args.marks.now) c.members.ensures ∙ ap (λ b. cond b (marked c.args.marks.now g.members) c.args.marks.now) (sym dropped)

pub returns-clause-seen : goal.returns-clause-seen
returns-clause-seen c =
    names_inserted c.args.group.now (record { 0 = c.signature.result }) c.args.signatures.now.keys c.insert.new.self.keys (sym c.is_comdat.ensures ∙ c.if-not-is_comdat.false) c.signature.ensures c.in_ok-insert.ensures.keys
