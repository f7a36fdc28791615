use Rattle.std.proofs.Common.{◌≡◌, true, false, ap, map, arith}
use Rattle.elf_model.specs.Image.MapRecord.{place_row}
use Rattle.elf_model.specs.Image.RightLink.{facts_of_row}
use Rattle.check_places.proofs.Lines.{cells_more, cells_stop, map_front, piece_facts_front}
use Rattle.place_judge.proofs.lines.are_lines_of.Goals as goal

pub loop-k-preserved : goal.loop-k-preserved
loop-k-preserved c =
    cells_more _ _ _ _ _ _ _
    (ap (map facts_of_row) (map_front place_row c.args.lines.now c.loop-k.k c.index-lines-k.result c.loop-k-test.true c.index-lines-k.is))
    (piece_facts_front c.args.pieces.now c.loop-k.k _ (omega arith))
    (c.is_line_of.ensures.0 c.if-not-is_line_of.false) c.loop-k.invariant

pub returns-then-not-is_line_of : goal.returns-then-not-is_line_of
returns-then-not-is_line_of c = (
  λ e. absurd (let f : false ≡ true = e in cc),
  λ h. absurd
      (cells_stop _ _ _ _ _ _ _
      (ap (map facts_of_row) (map_front place_row c.args.lines.now c.loop-k.k c.index-lines-k.result c.loop-k-test.true c.index-lines-k.is))
      (piece_facts_front c.args.pieces.now c.loop-k.k _ (omega arith))
      (λ same. let f : false ≡ true = c.if-not-is_line_of.ensures.1 same in cc) c.loop-k.invariant h),
)
