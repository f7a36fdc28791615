use Rattle.std.proofs.Common.{◌≡◌, ◌+◌, ◌<◌, ◌&&◌, ℕ, cond, length}
use Rattle.std.specs.Prelude.{nat_le, nat_lt, slice_index}
use Rattle.debug_image.specs.Marks.{one_more}
use Rattle.debug_image.proofs.marks.mark.Given as goal

abbrev pub invariant-loop-i : goal.invariant-loop-i
invariant-loop-i l =
    (k : ℕ) → k < length l.marks →
    slice_index l.marks k ≡ cond (nat_le l.start k && nat_lt k (l.start + l.i)) (one_more (slice_index l.fn.marks k)) (slice_index l.fn.marks k)
