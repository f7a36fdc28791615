use Rattle.std.proofs.Common.{ap, false, sym, true, ◌∙◌}
use Rattle.std.proofs.lemmas.List.{append-nil}
use Rattle.std.specs.Global.{Vec}
use Rattle.std.specs.Prelude.{ℕ}
use Rattle.comdat.proofs.MarkLemmas.{numbers_more}
use Rattle.comdat.proofs.marks.marked_numbers.Goals as goal
use Rattle.comdat.proofs.marks.marked_numbers.Goals.{then-is_marked+in_ok-push, else-is_marked}

pub loop-number-preserved : goal.loop-number-preserved
loop-number-preserved c =
    let marks = c.args.marks.now in
    let n = c.loop-number.number in
    let old = c.loop-number.numbers.items in
    let new = c.if-is_marked.numbers.items in
    elim c.if-is_marked.branch [
      | then-is_marked+in_ok-push w ↦
          numbers_more marks n old new true c.loop-number.invariant w.if-is_marked.true
          (ap (λ (v : Vec ℕ). v.items) w.numbers-is ∙ w.in_ok-push.ensures.items)
      | else-is_marked w ↦
          numbers_more marks n old new false c.loop-number.invariant w.if-is_marked.false (ap (λ (v : Vec ℕ). v.items) w.numbers-is ∙ sym (append-nil old))
    ]
