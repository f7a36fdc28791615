use Rattle.std.proofs.Common.{◌≡◌, true, false, arith}
use Rattle.check_places.proofs.Lines.{cells_more, cells_stop, facts_front, piece_facts_front}
use Rattle.check_places.proofs.c03_sections.are_lines_of.Goals as goal

pub loop-k-preserved : goal.loop-k-preserved
loop-k-preserved c =
    cells_more _ _ _ _ _ _ _
    (facts_front c.args.lines.now c.loop-k.k c.index-lines-k.result c.loop-k-test.true c.index-lines-k.is)
    (piece_facts_front c.args.pieces.now c.loop-k.k _ (omega arith))
    (c.is_line_of.ensures.0 c.if-not-is_line_of.false) c.loop-k.invariant

pub returns-then-not-is_line_of : goal.returns-then-not-is_line_of
returns-then-not-is_line_of c = (
  λ e. absurd (let f : false ≡ true = e in cc),
  λ h. absurd
      (cells_stop _ _ _ _ _ _ _
      (facts_front c.args.lines.now c.loop-k.k c.index-lines-k.result c.loop-k-test.true c.index-lines-k.is)
      (piece_facts_front c.args.pieces.now c.loop-k.k _ (omega arith))
      (λ same. let f : false ≡ true = c.if-not-is_line_of.ensures.1 same in cc) c.loop-k.invariant h),
)
