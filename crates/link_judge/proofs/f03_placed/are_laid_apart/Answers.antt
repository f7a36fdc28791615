use Rattle.std.proofs.Common.{◌≡◌, ◌%◌, ◌∙◌, List, refl, sym, subst}
use Rattle.std.proofs.lemmas.Bool.{false≢true}
use Rattle.std.specs.Prelude.{All, AllPairs}
use Rattle.elf_model.specs.Link.Placement.{AreApart, Placed, thread_ranges}
use Rattle.judge_model.specs.Placed.{IsLow}
use Rattle.link_judge.proofs.f03_placed.are_laid_apart.Goals as goal

pub returns-then-not-branch : goal.returns-then-not-branch
returns-then-not-branch c = (
  λ t. absurd (false≢true t),
  λ r. sym c.if-not-branch.true ∙ c.in_ok-are_apart.ensures.1 (subst (AllPairs AreApart) (sym c.things.ensures) r.apart),
)

pub returns-then-not-branch-2 : goal.returns-then-not-branch-2
returns-then-not-branch-2 c = (
  λ t. absurd (false≢true t),
  λ r.
      sym c.if-not-branch-2.true
      ∙ c.in_ok-are_threads_apart.ensures.1
      (subst (λ (qs : List Placed). AllPairs AreApart (thread_ranges qs)) (sym c.placed-2.ensures) r.threads_apart),
)

pub returns : goal.returns
returns c = (
  λ _. record {
    low = subst (All IsLow) c.placed.ensures (c.are_low.ensures.0 c.if-not-are_low.false);
    aligned =
        subst (All (λ (q : Placed). q.at % q.piece.align ≡ 0)) c.placed-else-not-are_low.ensures
        (c.are_aligned.ensures.0 c.if-not-are_aligned.false);
    apart = subst (AllPairs AreApart) c.things.ensures (c.in_ok-are_apart.ensures.0 c.if-not-branch.false);
    threads_apart =
        subst (λ (qs : List Placed). AllPairs AreApart (thread_ranges qs)) c.placed-2.ensures
        (c.in_ok-are_threads_apart.ensures.0 c.if-not-branch-2.false);
  },
  λ _. refl,
)
