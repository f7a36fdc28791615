use Rattle.std.proofs.Common.{arith, refl}
use Rattle.std.proofs.lemmas.Bool.{false≢true}
use Rattle.like_names.proofs.Edits.{one_put, two_exchanged}
use Rattle.like_names.proofs.one_edit.is_one_edit.Goals as goal

pub returns-then-go_on_alike : goal.returns-then-go_on_alike
returns-then-go_on_alike c = λ yes.
    one_put c.args.a.now c.args.b.now c.common_len-n.result 1 1 (λ e. false≢true (c.if-are_same.ensures.other e)) c.common_len-n.ensures.same (omega arith)
    (omega arith) (rw (c.split_at.ensures.back, c.split_at-2.ensures.back) at (c.if-go_on_alike.ensures refl))

pub returns-then-go_on_alike-2 : goal.returns-then-go_on_alike-2
returns-then-go_on_alike-2 c = λ yes.
    one_put c.args.a.now c.args.b.now c.common_len-n.result 0 1 (λ e. false≢true (c.if-are_same.ensures.other e)) c.common_len-n.ensures.same (omega arith)
    (omega arith) (rw (c.split_at.ensures.back, c.split_at-2.ensures.back) at (c.if-go_on_alike-2.ensures refl))

pub returns-then-go_on_alike-3 : goal.returns-then-go_on_alike-3
returns-then-go_on_alike-3 c = λ yes.
    one_put c.args.a.now c.args.b.now c.common_len-n.result 1 0 (λ e. false≢true (c.if-are_same.ensures.other e)) c.common_len-n.ensures.same (omega arith)
    (omega arith) (rw (c.split_at.ensures.back, c.split_at-2.ensures.back) at (c.if-go_on_alike-3.ensures refl))

pub returns : goal.returns
returns c = λ yes.
    two_exchanged c.args.a.now c.args.b.now c.common_len-n.result (λ e. false≢true (c.if-are_same.ensures.other e)) c.common_len-n.ensures.same
    (rw (c.split_at.ensures.back, c.split_at-2.ensures.back) at (c.are_exchanged.ensures yes))
