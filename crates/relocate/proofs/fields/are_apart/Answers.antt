use Rattle.std.proofs.Common.{refl, subst, sym}
use Rattle.std.proofs.lemmas.List.Sorted.{All-permutation, IsPermutation-sym}
use Rattle.elf_model.proofs.RangeOrder.{ordered_apart, rise_apart}
use Rattle.relocate.specs.Fields.{IsSome, Rise}
use Rattle.relocate.specs.declared.fields.Field.{Field}
use Rattle.relocate.proofs.fields.are_apart.Goals as goal

pub returns-then-rise : goal.returns-then-rise
returns-then-rise c = (
  λ t. rise_apart (λ (f : Field). f.section) (λ f. f.start) (λ f. f.end) c.args.fields.now.items c.requires (subst Rise c.deref.ensures.value (c.if-rise.ensures.0 refl)),
  λ a. refl,
)

pub returns : goal.returns
returns c =
    let same = c.in_ok-put_in_order.ensures.same in
    let xs = c.args.fields.now.items in
    let ys = c.put_in_order.new.fields.items in
    let both =
    ordered_apart (λ (f : Field). f.section) (λ f. f.start) (λ f. f.end) xs ys same (IsPermutation-sym xs ys same) (All-permutation IsSome xs ys same c.requires) c.in_ok-put_in_order.ensures.ordered in (
      λ t. both.0 (subst Rise c.deref-2.ensures.value (c.rise-2.ensures.0 t)),
      λ a. c.rise-2.ensures.1 (subst Rise (sym c.deref-2.ensures.value) (both.1 a)),
    )
