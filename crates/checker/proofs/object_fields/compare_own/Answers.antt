use Rattle.check_link.specs.Views.{placed_views}
use Rattle.checker.proofs.PieceOrder.{compared_more, cut_later, cut_own, cut_parts, own_first}
use Rattle.checker.proofs.object_fields.compare_own.Goals as goal

pub holds_own-held-requires-clause-own : goal.holds_own-held-requires-clause-own
holds_own-held-requires-clause-own c =
    let n = c.args.number in
    let qs = c.args.so_far.left.now in
    let own = c.split_at.result.0.now in
    let later = c.split_at.result.1.now in
    let m = c.own_count.result in
    own_first c.args.bound.now n (placed_views qs) (placed_views own) (placed_views later)
    (cut_parts n qs own later m c.own_count.ensures.count c.split_at.ensures.front c.split_at.ensures.back) c.requires.so_far.left_are
    (cut_own n qs own later m c.own_count.ensures.count c.split_at.ensures.front c.split_at.ensures.back)

pub returns : goal.returns
returns c =
    let n = c.args.number in
    let qs = c.args.so_far.left.now in
    let own = c.split_at.result.0.now in
    let later = c.split_at.result.1.now in
    let m = c.own_count.result in
    compared_more c.args.bound.now n c.args.so_far.held c.holds_own-held.result (placed_views qs) (placed_views own) (placed_views later)
    (cut_parts n qs own later m c.own_count.ensures.count c.split_at.ensures.front c.split_at.ensures.back) c.requires.so_far
    (cut_own n qs own later m c.own_count.ensures.count c.split_at.ensures.front c.split_at.ensures.back)
    (cut_later n qs own later m c.own_count.ensures.count c.split_at.ensures.front c.split_at.ensures.back) c.holds_own-held.ensures
