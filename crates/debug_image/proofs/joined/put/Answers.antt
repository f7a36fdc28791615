use Rattle.std.proofs.Common.{◌≡◌, ◌∙◌, List, ap, arith, length, sym}
use Rattle.std.proofs.lemmas.List.{get_or_default}
use Rattle.debug_image.specs.DebugSections.{is_joined_of, replaced}
use Rattle.debug_image.specs.DebugViews.{joined_view, joined_views}
use Rattle.debug_image.specs.declared.joined.Joined.{Joined}
use Rattle.debug_image.proofs.JoinedSteps.{no_joined, put_here}
use Rattle.debug_image.proofs.joined.put.Goals as goal

pub returns-then-eq : goal.returns-then-eq
returns-then-eq c =
    let more = c.args.more in
    let n : c.len-k-end.result ≡ length c.loop-k.joined.items =
    c.len-k-end.ensures ∙ c.args.joined.now.ok.0 ∙ ap (λ (js : List Joined). length js) (sym c.loop-k.invariant.same) in
    let test = c.loop-k-test.true in
    let at = c.index.ensures ∙ get_or_default c.loop-k.joined.items c.loop-k.k c.index.result.now no_joined (omega (arith, n, test)) in
    put_here c.loop-k.joined.items more c.loop-k.k no_joined (replaced (joined_views c.loop-k.joined.items) (joined_view more)) (omega (arith, n, test))
    (ap (λ (j : Joined). is_joined_of more.title.now (joined_view j)) (sym at) ∙ sym c.if-eq.ensures) c.loop-k.invariant.left
    ∙ ap (λ (js : List Joined). replaced (joined_views js) (joined_view more)) c.loop-k.invariant.same
