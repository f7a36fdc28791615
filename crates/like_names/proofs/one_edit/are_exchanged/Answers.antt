use Rattle.std.proofs.Common.{arith}
use Rattle.like_names.proofs.Edits.{exchanged}
use Rattle.like_names.proofs.one_edit.are_exchanged.Goals as goal

pub returns : goal.returns
returns c = λ yes.
    exchanged c.args.a.now c.args.b.now (omega (arith, c.if-a-lt2.false)) (omega (arith, c.if-b-lt2.false)) (omega (arith, c.if-a-b.false))
    (omega (arith, c.if-a-b-2.false)) (c.go_on_alike.ensures yes)
