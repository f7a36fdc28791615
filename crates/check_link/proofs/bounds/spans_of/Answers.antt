use Rattle.std.proofs.Common.{◌∙◌, ◌+◌, ℕ, Option, ap, drop, map, max, arith}
use Rattle.elf_model.specs.Link.LinkerValues.{end_of_pieces, start_of_pieces}
use Rattle.elf_model.specs.Link.Pieces.{is_of_output}
use Rattle.elf_model.proofs.Listed.{All-unmap}
use Rattle.elf_model.proofs.PieceBounds.{either_least, end_more, start_more}
use Rattle.check_link.specs.ByName.{known}
use Rattle.check_link.specs.Outputs.{end_of, start_of}
use Rattle.check_link.specs.PieceParts.{IsInLimit}
use Rattle.check_link.specs.Views.{placed_view}
use Rattle.check_link.specs.declared.bounds.Span.{Span}
use Rattle.check_link.proofs.bounds.spans_of.Goals as goal

pub loop-q-init : goal.loop-q-init
loop-q-init c = record {
  kept = c.new-spans.ensures.kept;
  starts = λ n. ap (λ (o : Option Span). either_least (start_of o) (start_of_pieces (is_of_output n) (map placed_view c.args.placed.now))) (c.new-spans.ensures.empty n);
  ends = λ n. let z = ap end_of (c.new-spans.ensures.empty n) in omega (arith, z);
}

pub add_span-requires-clause-limit : goal.add_span-requires-clause-limit
add_span-requires-clause-limit c = All-unmap IsInLimit placed_view c.args.placed.now c.requires c.loop-q.q-index _ c.loop-q-test.true

pub loop-q-preserved : goal.loop-q-preserved
loop-q-preserved c =
    let xs = c.args.placed.now in
    let i = c.loop-q.q-index in
    record {
      kept = c.in_ok-add_span.ensures.kept;
      starts = λ n.
          ap (λ (o : Option ℕ). either_least o (start_of_pieces (is_of_output n) (map placed_view (drop (i + 1) xs)))) (c.in_ok-add_span.ensures.spanned.starts n)
          ∙ start_more placed_view (is_of_output n) xs i _ (start_of (known c.loop-q.spans n)) c.loop-q-test.true
          ∙ c.loop-q.invariant.starts n;
      ends = λ n.
          ap (λ x. max x (end_of_pieces (is_of_output n) (map placed_view (drop (i + 1) xs)))) (c.in_ok-add_span.ensures.spanned.ends n)
          ∙ end_more placed_view (is_of_output n) xs i _ (end_of (known c.loop-q.spans n)) c.loop-q-test.true
          ∙ c.loop-q.invariant.ends n;
    }
