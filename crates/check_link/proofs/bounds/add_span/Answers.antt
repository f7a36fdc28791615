use Rattle.std.proofs.Common.{◌∙◌, ◌+◌, Option, Some, ap, max}
use Rattle.elf_model.specs.Link.LinkerValues.{least_of}
use Rattle.check_link.specs.ByName.{known}
use Rattle.check_link.specs.Outputs.{end_of, start_of}
use Rattle.check_link.specs.Views.{placed_view}
use Rattle.check_link.specs.declared.bounds.Span.{Span}
use Rattle.check_link.proofs.ByNames.{put_over, value_known}
use Rattle.check_link.proofs.SeenOutputs.{end_put, start_put}
use Rattle.check_link.proofs.bounds.add_span.Goals as goal

pub returns-clause-spanned : goal.returns-clause-spanned
returns-clause-spanned c =
    let old = c.args.spans.now in
    let turned = c.turn_to.new.self in
    let same = c.in_ok-turn_to.ensures.same in
    let q = placed_view c.args.placed.now in
    let v = c.with_piece.result in
    let named = c.in_ok-turn_to.ensures.turned ∙ c.output_name.ensures in
    let before = value_known old turned same in
    record {
      starts = λ n.
          start_put (known old) _ turned.name.now n q v named (put_over old turned same (Some v) n)
          (c.with_piece.ensures.start ∙ ap (λ (o : Option Span). least_of q.at (start_of o)) before);
      ends = λ n.
          end_put (known old) _ turned.name.now n q v named (put_over old turned same (Some v) n)
          (c.with_piece.ensures.end ∙ ap (λ (o : Option Span). max (end_of o) (q.at + q.piece.size)) before);
    }
