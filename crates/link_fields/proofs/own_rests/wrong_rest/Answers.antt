use Rattle.std.proofs.Common.{◌≡◌, None, Option, ap, subst, sym, ◌∙◌}
use Rattle.std.specs.Prelude.{All, IfSome}
use Rattle.check_link.specs.Views.{placed_view}
use Rattle.elf_model.proofs.Listed.{All-unmap}
use Rattle.check_link.specs.declared.things.Placed.{Placed}
use Rattle.link_fields.proofs.BesideRelocations.{all_rests}
use Rattle.link_fields.proofs.WrongPlaces.{wrong_rest_of}
use Rattle.link_fields.specs.Parts.{Parts}
use Rattle.link_fields.specs.Rests.{HoldsRestIn, LiesWhole}
use Rattle.link_fields.specs.Wrong.{IsDenied, rest_named}
use Rattle.link_fields.proofs.own_rests.wrong_rest.Goals as goal

pub wrong_among-requires : goal.wrong_among-requires
wrong_among-requires c =
    let same = c.placed.ensures ∙ ap (λ (p : Parts). p.placed) c.parts.view_is in
    All-unmap (LiesWhole c.args.parts.now.image) placed_view c.placed.result.now
    (subst (All (LiesWhole c.args.parts.now.image)) (sym same) c.requires)

pub returns-clause-right : goal.returns-clause-right
returns-clause-right c = λ l parts drops none.
    let xs = c.placed.result.now in
    let same = c.placed.ensures ∙ ap (λ (p : Parts). p.placed) c.parts.view_is in
    (all_rests l c.args.drops.now drops xs (same ∙ ap (λ (p : Parts). p.placed) (sym parts))).0
    (subst (λ (p : Parts). All (λ (q : Placed). HoldsRestIn p c.args.drops.now (placed_view q)) xs) (sym parts) (c.in_ok-wrong.ensures.right none))

pub returns-clause-wrong : goal.returns-clause-wrong
returns-clause-wrong c = λ l parts drops.
    let xs = c.placed.result.now in
    let same = c.placed.ensures ∙ ap (λ (p : Parts). p.placed) c.parts.view_is in
    let wrong = c.in_ok-wrong.wrong in
    wrong_rest_of l c.args.drops.now drops xs (same ∙ ap (λ (p : Parts). p.placed) (sym parts)) wrong
    (subst
    (λ (p : Parts). IfSome wrong (IsDenied (λ (q : Placed). HoldsRestIn p c.args.drops.now (placed_view q)) (λ q. rest_named (placed_view q)) xs))
    (sym parts) c.in_ok-wrong.ensures.wrong)
