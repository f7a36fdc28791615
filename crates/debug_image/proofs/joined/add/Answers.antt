use Rattle.std.proofs.Common.{◌≡◌, ◌∙◌, List, ap, subst, sym}
use Rattle.std.specs.Prelude.{All}
use Rattle.placing.specs.Views.{piece_view}
use Rattle.debug_image.specs.DebugSections.{EndsLow, IsLow, Joined, named, place_behind}
use Rattle.debug_image.specs.declared.joined.Joined as code
use Rattle.debug_image.specs.DebugViews.{joined_view, joined_views}
use Rattle.debug_image.proofs.JoinedSteps.{replaced_low, too_high}
use Rattle.debug_image.proofs.joined.add.Goals as goal

pub returns-clause-low : goal.returns-clause-low
returns-clause-low c =
    subst (All IsLow) (sym c.in_ok-put.ensures)
    (replaced_low (joined_views c.args.joined.now.items) (joined_view c.grown.result) c.requires c.grown.ensures.low)

pub returns-in-Err-clause-large : goal.returns-in-Err-clause-large
returns-in-Err-clause-large c = λ _.
    let p = piece_view c.args.piece.now in
    let same : named (joined_views c.args.joined.now.items) p.name ≡ joined_view c.named-one.result =
    ap (λ (js : List code.Joined). named (joined_views js) p.name) (sym c.deref.ensures.value) ∙ sym c.named-one.ensures.exact in
    too_high (joined_views c.args.joined.now.items) p
    (λ low. c.in-Err.ensures.large (subst EndsLow (ap (λ (j : Joined). place_behind j p) same) low))
