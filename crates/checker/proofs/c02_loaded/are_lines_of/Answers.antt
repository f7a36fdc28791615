use Rattle.std.proofs.Common.{◌≡◌, true, false, arith}
use Rattle.linkmap.specs.Borrowed.{object_row}
use Rattle.check_places.proofs.Lines.{cells_more, cells_stop, map_front, rows_front, rows_length}
use Rattle.checker.proofs.c02_loaded.are_lines_of.Goals as goal

pub loop-k-preserved : goal.loop-k-preserved
loop-k-preserved c =
    cells_more _ _ _ _ _ _ _
    (map_front object_row c.args.lines.now c.loop-k.k c.index-lines-k.result c.loop-k-test.true c.index-lines-k.is)
    (rows_front c.args.objects.now c.loop-k.k c.index-objects-k.result (omega arith) c.index-objects-k.is)
    (c.is_line_of.ensures.0 c.if-not-is_line_of.false) c.loop-k.invariant

pub returns-then-not-is_line_of : goal.returns-then-not-is_line_of
returns-then-not-is_line_of c = (
  λ e. absurd (let f : false ≡ true = e in cc),
  λ h. absurd
      (cells_stop _ _ _ _ _ _ _
      (map_front object_row c.args.lines.now c.loop-k.k c.index-lines-k.result c.loop-k-test.true c.index-lines-k.is)
      (rows_front c.args.objects.now c.loop-k.k c.index-objects-k.result (omega arith) c.index-objects-k.is)
      (λ same. let f : false ≡ true = c.if-not-is_line_of.ensures.1 same in cc) c.loop-k.invariant h),
)

pub returns-then-lines-objects : goal.returns-then-lines-objects
returns-then-lines-objects c = (
  λ e. absurd (let f : false ≡ true = e in cc),
  λ h. absurd (c.if-lines-objects.true (rows_length c.args.lines.now c.args.objects.now h)),
)
