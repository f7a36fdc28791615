use Rattle.std.proofs.Common.{◌≡◌, ◌∙◌, inl, inr, ℕ, List, Some, ap, arith, refl, subst, sym}
use Rattle.std.specs.List.{slice_get}
use Rattle.std.proofs.lemmas.Bool.{cases_lt, false≢true}
use Rattle.std.proofs.lemmas.Option.{same_Some}
use Rattle.check_load.specs.Views.{loaded_view, loaded_views}
use Rattle.elf_model.specs.Link.Loading.{LoadedObject}
use Rattle.keep_judge.specs.Collected.{IsObjectRight, has_name}
use Rattle.keep_judge.proofs.GroupMarks.{object_there, object_within}
use Rattle.keep_judge.proofs.collected.are_objects_right.Goals as goal

pub returns-then-not-branch : goal.returns-then-not-branch
returns-then-not-branch c =
    let k = c.loop-k.k in
    let x = c.index-objects-k.result in
    let here : slice_get c.args.names.now k ≡ Some (loaded_view x) =
    ap (λ (os : List LoadedObject). slice_get os k) (sym c.objects-objects.ensures) ∙ object_there c.objects-objects.result.now k x c.loop-k-test.true c.index-objects-k.is in (
      λ e. absurd (false≢true e),
      λ all. absurd (false≢true (sym c.if-not-branch.true ∙ c.in_ok-is_object_right.ensures.1 (all k (loaded_view x) here))),
    )

pub loop-k-preserved : goal.loop-k-preserved
loop-k-preserved c = λ i o low there.
    let k = c.loop-k.k in
    let x = c.index-objects-k.result in
    let P : ℕ → LoadedObject → Type 0 = IsObjectRight c.args.names.now c.args.drops.now (has_name c.args.lost.now) in
    let here = object_there c.objects-objects.result.now k x c.loop-k-test.true c.index-objects-k.is in
    let right : P k (loaded_view x) = c.in_ok-is_object_right.ensures.0 c.if-not-branch.false in
    elim (cases_lt i k) [
      | inl under ↦ c.loop-k.invariant i o under there
      | inr over ↦
          let same : i ≡ k = omega (arith, low, over) in
          let one : loaded_view x ≡ o = same_Some _ _ (sym here ∙ (ap (slice_get (loaded_views c.objects-objects.result.now)) (sym same) ∙ there)) in
          subst (λ (n : ℕ). P n o) (sym same) (subst (P k) one right)
    ]

pub returns : goal.returns
returns c = (
  λ e. λ k o there.
      let at = ap (λ (os : List LoadedObject). slice_get os k) c.objects-objects.ensures ∙ there in
      let within = object_within c.objects-objects.result.now k o at in
      let ends = c.loop-k-test.false in
      c.loop-k.invariant k o (omega (arith, within, ends)) at,
  λ all. refl,
)
