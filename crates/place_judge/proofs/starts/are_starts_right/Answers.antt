use Rattle.std.proofs.Common.{◌≡◌, ℕ, Option, get_or, subst, sym}
use Rattle.std.specs.Prelude.{IfSome}
use Rattle.place_judge.proofs.starts.are_starts_right.Goals as goal

pub returns : goal.returns
returns c = (
  λ t k d low.
      let s = get_or c.args.starts.now k d in
      subst (λ (o : Option ℕ). IfSome o (λ a. a ≡ s.address)) (c.in_ok-spans.ensures.starts s.name.now) (c.do_all_start.ensures.0 t k d low).starts,
  λ all.
      c.do_all_start.ensures.1
      (λ k d low.
      let s = get_or c.args.starts.now k d in
      record { starts = subst (λ (o : Option ℕ). IfSome o (λ a. a ≡ s.address)) (sym (c.in_ok-spans.ensures.starts s.name.now)) (all k d low) }),
)
