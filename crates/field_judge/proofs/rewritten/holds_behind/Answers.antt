use Rattle.std.proofs.Common.{◌+◌, arith, refl}
use Rattle.field_judge.proofs.RowLaws.{none_behind, one_behind}
use Rattle.field_judge.proofs.rewritten.holds_behind.Goals as goal

pub returns-then-nops_behind-eq0 : goal.returns-then-nops_behind-eq0
returns-then-nops_behind-eq0 c =
    let zero = c.if-nops_behind-eq0.true in
    let count = c.nops_behind.ensures.exact in
    (λ t. none_behind c.args.image.now (c.args.at + c.args.offset + 4) c.args.row (omega (arith, zero, count)), λ h. refl)

pub returns : goal.returns
returns c =
    let some = c.if-nops_behind-eq0.false in
    let count = c.nops_behind.ensures.exact in
    one_behind c.args.image.now (c.args.at + c.args.offset + 4) c.args.row c.has_byte.result (λ none. omega (arith, some, count, none)) c.has_byte.ensures
