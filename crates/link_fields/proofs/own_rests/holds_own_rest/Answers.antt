use Rattle.std.proofs.Common.{List, ℕ, ap, refl, subst}
use Rattle.std.specs.Prelude.{◌↔◌, All, IsTrue}
use Rattle.check_link.specs.Views.{placed_view}
use Rattle.memory_judge.specs.Rests.{HoldsBetween, IsBeside}
use Rattle.memory_judge.specs.declared.rests.FieldSpan.{FieldSpan}
use Rattle.link_fields.proofs.BesideRelocations.{rest_by}
use Rattle.link_fields.specs.Parts.{Parts}
use Rattle.link_fields.specs.Rests.{IsOutside, kept_in}
use Rattle.link_fields.proofs.own_rests.holds_own_rest.Goals as goal

pub returns : goal.returns
returns c =
    let q = placed_view c.args.placed.now in
    let p = c.args.parts.now in
    let drops = c.args.drops.now in
    rest_by p drops q c.parts.inside.image.now p.objects c.load_size-size.result c.in_ok-spans.spans.items c.holds_rest.result
    (ap (λ (p : Parts). p.image) c.parts.view_is) refl c.load_size-size.ensures
    (λ k.
    subst (λ (n : ℕ). IsBeside c.in_ok-spans.spans.items k ↔ All (IsOutside n q.piece.section k) (kept_in drops p.objects)) c.requires.object
    (c.in_ok-spans.ensures.beside p.objects k c.requires.fields))
    (subst
    (λ (ss : List FieldSpan). IsTrue c.holds_rest.result ↔ HoldsBetween c.parts.inside.image.now q.at c.load_size-size.result q.piece.bytes ss)
    c.deref.ensures.value c.holds_rest.ensures)
