use Rattle.std.proofs.Common.{◌∙◌, List, ap}
use Rattle.std.specs.List.{list_any}
use Rattle.elf_model.specs.Link.Pieces as pieces
use Rattle.elf_model.specs.Link.ThreadStorage.{alignment_of}
use Rattle.search.specs.Views.{loaded_views}
use Rattle.placing.specs.Views.{piece_views}
use Rattle.layout.specs.declared.output_sections.Part.TheVariants as part
use Rattle.placing.specs.declared.piece.Piece.{Piece}
use Rattle.layout.proofs.OrderSteps.{data_is, part_is}
use Rattle.layout.proofs.order.order_of.Goals as goal

pub returns-clause-order : goal.returns-clause-order
returns-clause-order c =
    let objects = loaded_views c.args.objects.now in
    let ps = c.args.pieces.now in
    let groups = c.in_ok-groups.groups.items in
    let is = part_is objects ps c.requires.pieces groups c.deref.result.now c.deref.ensures.value c.in_ok-groups.ensures in
    record {
      read_only = c.in_ok-part_of.ensures ∙ is part.ReadOnly c.deref-3.result.now c.deref-3.ensures.value;
      code = c.in_ok-part_of-2.ensures ∙ is part.Code c.deref-4.result.now c.deref-4.ensures.value;
      initial = c.in_ok-part_of-3.ensures ∙ is part.Initial c.deref-5.result.now c.deref-5.ensures.value;
      data_ = c.in_ok-data_of.ensures ∙ data_is objects ps c.requires.pieces groups c.deref.result.now c.deref.ensures.value c.in_ok-groups.ensures c.deref-6.result.now c.deref-6.ensures.value;
      thread_rest = c.in_ok-part_of-4.ensures ∙ is part.ThreadRest c.deref-7.result.now c.deref-7.ensures.value;
      thread_align =
          c.threads_of-threads.ensures.align
          ∙ (ap (λ (qs : List Piece). alignment_of pieces.is_thread_piece (piece_views qs)) c.deref-2.ensures.value
          ∙ ap (alignment_of pieces.is_thread_piece) c.requires.pieces.kept);
      threads =
          c.threads_of-threads.ensures.any
          ∙ (ap (λ (qs : List Piece). list_any pieces.is_thread_piece (piece_views qs)) c.deref-2.ensures.value
          ∙ ap (list_any pieces.is_thread_piece) c.requires.pieces.kept);
    }
