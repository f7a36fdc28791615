use Rattle.std.proofs.Common.{◌≡◌, List, ℕ, ap, subst, sym, ◌∙◌}
use Rattle.byteview.specs.Numbers.{part}
use Rattle.std.proofs.lemmas.Bool.{false≢true}
use Rattle.judge_model.specs.Memory.{Holds}
use Rattle.judge_model.specs.Merged.{IsAlignedLike}
use Rattle.merge_judge.proofs.lines.is_piece_right.Goals as goal

pub returns-then-not-is_aligned_like : goal.returns-then-not-is_aligned_like
returns-then-not-is_aligned_like c = (
  λ t. absurd (false≢true t),
  λ r.
      sym c.if-not-is_aligned_like.true
      ∙ c.is_aligned_like.ensures.1
      (subst (λ (a : ℕ). IsAlignedLike a c.args.m.now.offset c.args.m.now.address) (sym c.align_of.ensures.align) r.aligned),
)

pub returns : goal.returns
returns c =
    let bytes : c.part-bytes.result.now ≡ part c.args.piece.now.bytes.now c.args.m.now.offset c.args.m.now.size =
    c.part-bytes.ensures.exact ∙ ap (λ (bs : List ℕ). part bs c.args.m.now.offset c.args.m.now.size) c.new.ensures in (
      λ t. record {
        piece = c.is_piece.ensures.0 c.if-not-is_piece.false;
        aligned =
            subst (λ (a : ℕ). IsAlignedLike a c.args.m.now.offset c.args.m.now.address) c.align_of.ensures.align
            (c.is_aligned_like.ensures.0 c.if-not-is_aligned_like.false);
        holds = subst (λ (bs : List ℕ). Holds c.args.image.now c.args.m.now.address bs) bytes (c.holds.ensures.0 t);
      },
      λ r. c.holds.ensures.1 (subst (λ (bs : List ℕ). Holds c.args.image.now c.args.m.now.address bs) (sym bytes) r.holds),
    )
