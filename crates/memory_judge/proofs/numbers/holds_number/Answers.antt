use Rattle.std.proofs.Common.{◌∙◌, ap, refl, sym, arith}
use Rattle.std.specs.Prelude.{Some}
use Rattle.std.proofs.lemmas.Bool.{false≢true}
use Rattle.byteview.proofs.NumberLaws.{length-le_bytes, low_first_is}
use Rattle.memory_judge.proofs.NumberBytes.{lowest}
use Rattle.memory_judge.proofs.numbers.holds_number.Goals as goal

pub returns-then-not-has_byte : goal.returns-then-not-has_byte
returns-then-not-has_byte c = (
  λ e. absurd (false≢true e),
  λ h.
      let k = c.loop-k.k in
      let n = c.args.number in
      let below = c.loop-k-test.true in
      let long = length-le_bytes c.args.width n in
      let byte =
      lowest c.to_le_bytes-bytes.result c.args.width n k (c.to_le_bytes-bytes.ensures ∙ low_first_is 8 n) c.requires (omega (arith, below)) in
      absurd (false≢true (sym c.if-not-has_byte.true ∙ c.has_byte.ensures.1 (h k (omega (arith, below, long)) ∙ ap Some byte))),
)

pub returns : goal.returns
returns c = (
  λ t k low.
      let n = c.args.number in
      let end = c.loop-k-test.false in
      let long = length-le_bytes c.args.width n in
      c.loop-k.invariant.same k (omega (arith, low, long, end))
      ∙ ap Some
      (sym (lowest c.to_le_bytes-bytes.result c.args.width n k (c.to_le_bytes-bytes.ensures ∙ low_first_is 8 n) c.requires (omega (arith, low, long)))),
  λ h. refl,
)
