use Rattle.std.proofs.lemmas.Slice.Eq.{slice_eq-Decides}
use Rattle.order_judge.proofs.SortedPairs.{same_decides, same_sorted}
use Rattle.order_judge.proofs.origins.have_same.Goals as goal

pub returns : goal.returns
returns c =
    let left = c.in_ok-left.left.items in
    let right = c.in_ok-right.right.items in
    let equal = slice_eq-Decides same_decides left right c.eq.result c.eq.ensures in
    let same =
    same_sorted c.args.left.items c.args.right.items left right c.in_ok-left.ensures.same c.in_ok-right.ensures.same
    c.in_ok-left.ensures.rising c.in_ok-right.ensures.rising in
    (λ t. same.0 (equal.0 t), λ p. equal.1 (same.1 p))
