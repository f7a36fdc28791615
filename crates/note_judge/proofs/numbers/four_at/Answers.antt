use Rattle.std.proofs.Common.{List, ℕ, ◌∙◌, ap, arith, drop}
use Rattle.std.specs.Prelude.{length}
use Rattle.std.proofs.lemmas.List.{length-take}
use Rattle.byteview.specs.Numbers.{le, part}
use Rattle.note_judge.proofs.NoteBytes.{four_bytes}
use Rattle.note_judge.proofs.numbers.four_at.Goals as goal

pub returns-clause-exact : goal.returns-clause-exact
returns-clause-exact c =
    let few = length-take 4 (drop c.args.at c.new.result) in
    let a = c.byte_of.ensures.exact in
    let b = c.byte_of-2.ensures.exact in
    let d = c.byte_of-3.ensures.exact in
    let e = c.byte_of-4.ensures.exact in
    let long = ap length c.part-four.ensures.exact in
    let whole = four_bytes c.part-four.result.now (omega (arith, long, few)) in
    rw (a, b, d, e) whole ∙ ap le c.part-four.ensures.exact ∙ ap (λ (bytes : List ℕ). le (part bytes c.args.at 4)) c.new.ensures
