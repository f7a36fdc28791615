use Rattle.std.proofs.Common.{◌≡◌, ◌∙◌, ◌+◌, ◌≤◌, ℕ, List, ap, drop, map, max, subst, sym, arith}
use Rattle.std.proofs.lemmas.List.{drop_all}
use Rattle.thread_judge.specs.Parts.{part_test}
use Rattle.elf_model.specs.Link.ThreadStorage.{alignment_of}
use Rattle.check_link.specs.Views.{placed_view, placed_views}
use Rattle.check_link.specs.declared.things.Placed.{Placed}
use Rattle.check_link.proofs.Alignments.{alignment_more, alignment_some, greater_some}
use Rattle.thread_judge.proofs.parts.alignment_of.Goals as goal

pub loop-q-init : goal.loop-q-init
loop-q-init c = record {
  some = omega arith;
  greatest = let some = alignment_some (part_test c.args.part) (map (λ q. q.piece) (placed_views c.args.placed.now)) in omega (arith, some);
}

pub loop-q-preserved : goal.loop-q-preserved
loop-q-preserved c =
    let xs = c.args.placed.now in
    let i = c.loop-q.q-index in
    record {
      some = subst (λ (n : ℕ). 1 ≤ n) (sym c.greater-align.ensures) (greater_some _ c.loop-q.align _ c.loop-q.invariant.some);
      greatest =
          ap (λ (n : ℕ). max n (alignment_of (part_test c.args.part) (map (λ q. q.piece) (map placed_view (drop (i + 1) xs))))) c.greater-align.ensures
          ∙ alignment_more placed_view (part_test c.args.part) xs i _ c.loop-q.align c.loop-q-test.true
          ∙ c.loop-q.invariant.greatest;
    }

pub returns : goal.returns
returns c =
    let some = c.loop-q.invariant.some in
    let rest =
    ap (λ (xs : List Placed). max c.loop-q.align (alignment_of (part_test c.args.part) (map (λ q. q.piece) (placed_views xs))))
    (drop_all c.loop-q.q-index c.args.placed.now (omega (arith, c.loop-q-test.false))) in
    let one : max c.loop-q.align 1 ≡ c.loop-q.align = omega (arith, some) in
    sym (rest ∙ one) ∙ c.loop-q.invariant.greatest
