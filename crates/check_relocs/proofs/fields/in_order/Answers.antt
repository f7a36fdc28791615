use Rattle.std.proofs.Common.{refl, subst, sym, ◌∙◌}
use Rattle.std.proofs.lemmas.Bool.{false≢true}
use Rattle.std.proofs.lemmas.List.Sorted.{All-permutation, IsPermutation-refl, IsPermutation-sym}
use Rattle.check_relocs.proofs.FieldOrder.{ordered_apart, rise_apart, row_of_sorted}
use Rattle.check_relocs.specs.Fields.{IsNarrow, Rise}
use Rattle.check_relocs.proofs.fields.in_order.Goals as goal

pub returns-then-rise-clause-apart : goal.returns-then-rise-clause-apart
returns-then-rise-clause-apart c = (
  λ t. rise_apart c.args.fields.items c.requires (subst Rise c.deref.ensures.value (c.rise.ensures.0 c.if-rise.true)),
  λ a. refl,
)

pub returns-then-rise-clause-row : goal.returns-then-rise-clause-row
returns-then-rise-clause-row c =
    row_of_sorted c.args.fields.items c.args.fields.items (IsPermutation-refl c.args.fields.items) c.requires
    (subst Rise c.deref.ensures.value (c.rise.ensures.0 c.if-rise.true))

pub returns-then-not-rise-clause-apart : goal.returns-then-not-rise-clause-apart
returns-then-not-rise-clause-apart c =
    let same = c.in_ok-fields.ensures.same in
    let xs = c.args.fields.items in
    let ys = c.in_ok-fields.fields.items in
    let both = ordered_apart xs ys same (IsPermutation-sym xs ys same) (All-permutation IsNarrow xs ys same c.requires) c.in_ok-fields.ensures.ordered in (
      λ t. absurd (false≢true t),
      λ a. sym c.if-not-rise.true ∙ c.rise-2.ensures.1 (subst Rise (sym c.deref-2.ensures.value) (both.1 a)),
    )

pub returns-clause-apart : goal.returns-clause-apart
returns-clause-apart c =
    let same = c.in_ok-fields.ensures.same in
    let xs = c.args.fields.items in
    let ys = c.in_ok-fields.fields.items in
    let both = ordered_apart xs ys same (IsPermutation-sym xs ys same) (All-permutation IsNarrow xs ys same c.requires) c.in_ok-fields.ensures.ordered in (
      λ t. both.0 (subst Rise c.deref-2.ensures.value (c.rise-2.ensures.0 c.if-not-rise.false)),
      λ a. refl,
    )

pub returns-clause-row : goal.returns-clause-row
returns-clause-row c =
    let same = c.in_ok-fields.ensures.same in
    let xs = c.args.fields.items in
    let ys = c.in_ok-fields.fields.items in
    row_of_sorted xs ys same (All-permutation IsNarrow xs ys same c.requires)
    (subst Rise c.deref-2.ensures.value (c.rise-2.ensures.0 c.if-not-rise.false))
