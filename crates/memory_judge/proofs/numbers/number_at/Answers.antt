use Rattle.std.proofs.Common.{◌+◌, ◌∙◌, ap, sym, arith}
use Rattle.std.proofs.lemmas.List.{length-set}
use Rattle.std.specs.Prelude.{Some, slice_index}
use Rattle.std.proofs.lemmas.Option.{none-some}
use Rattle.byteview.proofs.NumberLaws.{length-le_bytes}
use Rattle.byteview.specs.Numbers.{le_bytes}
use Rattle.memory_judge.proofs.NumberBytes.{held_of, only_of, read_more, rest_less}
use Rattle.memory_judge.proofs.numbers.number_at.Goals as goal

pub returns-in_default-clause-only : goal.returns-in_default-clause-only
returns-in_default-clause-only c = λ v holds.
    let k = c.loop-k.k in
    let below = c.loop-k-test.true in
    let long = length-le_bytes c.args.width v in
    let none = rw c.in_default.is at c.byte_behind.ensures in
    absurd (none-some (slice_index (le_bytes c.args.width v) k) (none ∙ holds k (omega (arith, below, long))))

pub loop-k-preserved : goal.loop-k-preserved
loop-k-preserved c =
    let below = c.loop-k-test.true in
    let at = c.args.at + c.args.offset in
    let bs = c.loop-k.bytes in
    let old = c.loop-k.invariant in
    let long = old.long in
    let same = length-set bs c.loop-k.k c.in-Some.byte in
    record {
      long = omega (arith, long, same);
      within = omega (arith, below);
      read =
          read_more c.args.image.now at c.loop-k.k c.in-Some.byte bs (let narrow = c.requires in omega (arith, long, below, narrow))
          (sym (c.in-Some.ensures)) old.read;
      rest = rest_less c.loop-k.k c.in-Some.byte bs old.rest;
    }

pub returns-clause-held : goal.returns-clause-held
returns-clause-held c =
    let end = c.loop-k-test.false in
    held_of c.args.image.now (c.args.at + c.args.offset) c.args.width c.number_in.result c.loop-k.bytes c.number_in.ensures.number
    c.number_in.ensures.are (λ j low. c.loop-k.invariant.read j (omega (arith, end, low)))

pub returns-clause-only : goal.returns-clause-only
returns-clause-only c = λ v holds.
    let end = c.loop-k-test.false in
    let within = c.loop-k.invariant.within in
    ap Some
    (only_of c.args.image.now (c.args.at + c.args.offset) c.args.width c.number_in.result v c.loop-k.bytes c.number_in.ensures.number
    (λ j low. c.loop-k.invariant.read j (omega (arith, end, low))) (λ j high. c.loop-k.invariant.rest j (omega (arith, within, high))) holds)
