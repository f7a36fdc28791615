use Rattle.std.proofs.Common.{ap, length, sym, ◌∙◌}
use Rattle.checker.proofs.c11_fill.has_nothing_else.Goals as goal

pub returns : goal.returns
returns c = (
  λ e. record {
    fill = c.in_ok-filled.ensures.0 e;
    segments = c.do_segments_end_right.ensures.0 c.if-not-do_segments_end_right.false;
    gaps = (c.in_ok-zero.ensures.0 c.if-not-zero.false).gaps;
    end = λ none.
        sym (ap length c.image.ensures.bytes) ∙ (c.ends_as_told.ensures.0 c.if-not-ends_as_told.false none ∙ c.file_end-end.ensures.end);
  },
  λ h. c.in_ok-filled.ensures.1 h.fill,
)
