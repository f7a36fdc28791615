use Rattle.foreign_image.proofs.table.are_types_right.Goals as goal

pub returns : goal.returns
returns c = (
  λ yes. record { known = c.are_known.ensures.0 c.if-not-are_known.false; single = c.are_single.ensures.0 yes },
  λ are. c.are_single.ensures.1 are.single,
)
