use Rattle.std.proofs.Common.{◌∙◌, ℕ, refl, subst, sym}
use Rattle.std.specs.Prelude.{All, Any}
use Rattle.std.proofs.lemmas.Bool.{false≢true}
use Rattle.check_link.specs.Views.{placed_views}
use Rattle.judge_model.specs.ThreadBlocks.{IsThreadHeader}
use Rattle.thread_judge.proofs.Right.{Before, any_header, behind, never_true, no_header, not_of, some}
use Rattle.thread_judge.proofs.blocks.is_thread_block_right.Goals as goal

pub returns-then-not-are_behind : goal.returns-then-not-are_behind
returns-then-not-are_behind c = (
  λ t. absurd (false≢true t),
  λ r.
      sym c.if-not-are_behind.true
      ∙ c.are_behind.ensures.1
      ((behind c.end_of.result c.args.placed.now).1
      (subst (λ (n : ℕ). All (Before n) (placed_views c.args.placed.now)) (sym c.end_of.ensures) r.before)),
)

pub returns-then-not-are_headers : goal.returns-then-not-are_headers
returns-then-not-are_headers c = (
  λ t. absurd (false≢true t),
  λ r.
      sym c.if-not-are_headers.true
      ∙ c.are_headers.ensures.1
      (subst (All (IsThreadHeader c.args.image.now (placed_views c.args.placed.now))) (sym c.thread_blocks-blocks.ensures) r.each),
)

pub returns-then-not-is_empty : goal.returns-then-not-is_empty
returns-then-not-is_empty c =
    let all = c.are_headers.ensures.0 c.if-not-are_headers.false in (
      λ t. record {
        some = λ s.
            subst (Any (IsThreadHeader c.args.image.now (placed_views c.args.placed.now))) c.thread_blocks-blocks.ensures
            (any_header (IsThreadHeader c.args.image.now (placed_views c.args.placed.now)) c.thread_blocks-blocks.result.now
            (sym c.is_empty.ensures ∙ c.if-not-is_empty.true) all);
        each = subst (All (IsThreadHeader c.args.image.now (placed_views c.args.placed.now))) c.thread_blocks-blocks.ensures all;
        before =
            subst (λ (n : ℕ). All (Before n) (placed_views c.args.placed.now)) c.end_of.ensures
            ((behind c.end_of.result c.args.placed.now).0 (c.are_behind.ensures.0 c.if-not-are_behind.false));
      },
      λ r. refl,
    )

pub returns : goal.returns
returns c =
    let all = c.are_headers.ensures.0 c.if-not-are_headers.false in (
      λ t. record {
        some = λ s. absurd (never_true c.has_some.result t (c.has_some.ensures.1 ((some c.args.placed.now).1 s)));
        each = subst (All (IsThreadHeader c.args.image.now (placed_views c.args.placed.now))) c.thread_blocks-blocks.ensures all;
        before =
            subst (λ (n : ℕ). All (Before n) (placed_views c.args.placed.now)) c.end_of.ensures
            ((behind c.end_of.result c.args.placed.now).0 (c.are_behind.ensures.0 c.if-not-are_behind.false));
      },
      λ r.
          not_of c.has_some.result
          (λ yes.
          no_header (IsThreadHeader c.args.image.now (placed_views c.args.placed.now)) c.thread_blocks-blocks.result.now
          (sym c.is_empty.ensures ∙ c.if-not-is_empty.false)
          (subst (Any (IsThreadHeader c.args.image.now (placed_views c.args.placed.now))) (sym c.thread_blocks-blocks.ensures)
          (r.some ((some c.args.placed.now).0 (c.has_some.ensures.0 yes))))),
    )
