use Rattle.std.proofs.Common.{◌+◌, refl, subst, sym}
use Rattle.std.proofs.lemmas.List.Sorted.{All-permutation, IsPermutation-sym}
use Rattle.elf_model.proofs.RangeOrder.{ordered_apart, rise_apart}
use Rattle.input_judge.specs.Apart.{HasByte, Rise}
use Rattle.input_judge.specs.declared.fields_apart.FieldBytes.{FieldBytes}
use Rattle.input_judge.proofs.fields_apart.are_apart.Goals as goal

pub returns-then-rise : goal.returns-then-rise
returns-then-rise c = (
  λ t. rise_apart (λ (f : FieldBytes). f.section) (λ f. f.at) (λ f. f.at + f.width) c.args.fields.items c.requires
      (subst Rise c.deref.ensures.value (c.rise.ensures.0 c.if-rise.true)),
  λ a. refl,
)

pub returns : goal.returns
returns c =
    let same = c.in_ok-fields.ensures.same in
    let xs = c.args.fields.items in
    let ys = c.in_ok-fields.fields.items in
    let both =
    ordered_apart (λ (f : FieldBytes). f.section) (λ f. f.at) (λ f. f.at + f.width) xs ys same (IsPermutation-sym xs ys same)
    (All-permutation HasByte xs ys same c.requires) c.in_ok-fields.ensures.ordered in (
      λ t. both.0 (subst Rise c.deref-2.ensures.value (c.rise-2.ensures.0 t)),
      λ a. c.rise-2.ensures.1 (subst Rise (sym c.deref-2.ensures.value) (both.1 a)),
    )
