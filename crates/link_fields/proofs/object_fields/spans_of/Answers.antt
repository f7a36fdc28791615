use Rattle.std.proofs.Common.{List, subst, sym}
use Rattle.std.specs.Prelude.{◌↔◌, All}
use Rattle.std.proofs.lemmas.List.Sorted.{All-permutation, IsPermutation-sym}
use Rattle.memory_judge.specs.Rests.{IsBeside, IsIn}
use Rattle.memory_judge.specs.declared.rests.FieldSpan.{FieldSpan}
use Rattle.link_fields.specs.Fields.{IsFieldOutside}
use Rattle.link_fields.proofs.object_fields.spans_of.Goals as goal

pub returns-clause-beside : goal.returns-clause-beside
returns-clause-beside c = λ k.
    let spans = c.in_ok-spans.spans.items in
    let rising = c.in_ok-rising.rising.items in
    let part =
    subst (λ (ss : List FieldSpan). IsBeside ss k ↔ All (IsFieldOutside c.args.section k) c.args.row.now) (sym c.in_ok-spans.ensures)
    (c.part_of.ensures k) in (
      λ b. part.0 (All-permutation (λ (s : FieldSpan). ¬ IsIn k s) rising spans (IsPermutation-sym spans rising c.in_ok-rising.ensures.same) b),
      λ all. All-permutation (λ (s : FieldSpan). ¬ IsIn k s) spans rising c.in_ok-rising.ensures.same (part.1 all),
    )
