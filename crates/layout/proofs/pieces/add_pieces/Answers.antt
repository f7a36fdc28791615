use Rattle.std.proofs.Common.{◌+◌, ◌++◌, [], ◌∷◌, List, ap, drop, get_or, sym, ◌∙◌}
use Rattle.std.proofs.lemmas.List.{map-append}
use Rattle.elf_model.specs.Link.Pieces as model
use Rattle.elf_model.specs.declared.records.SectionHeader.{SectionHeader}
use Rattle.elf_model.proofs.Mapped.{push_mapped}
use Rattle.elf_model.proofs.Rests.{rest_at}
use Rattle.search.specs.KeptLists.{piece_at}
use Rattle.search.specs.Views.{loaded_view}
use Rattle.placing.specs.Views.{piece_view, piece_views}
use Rattle.layout.proofs.pieces.add_pieces.Goals as goal

pub loop-section-init : goal.loop-section-init
loop-section-init c =
    ap (λ (ps : List model.Piece). piece_views c.args.out.now.items ++ ps) (sym (c.kept_sections-sections.ensures.pieces c.args.number))

pub loop-section-preserved : goal.loop-section-preserved
loop-section-preserved c =
    let n = c.args.number in
    let o = loaded_view c.args.loaded.now in
    let is = c.kept_sections-sections.result.now in
    let i = c.loop-section.section-index in
    push_mapped (piece_at n o) (piece_views c.loop-section.out.items) (piece_views c.push.new.self.items) (piece_view c.piece_of.result) (get_or is i 0)
    (drop i is) (drop (i + 1) is) _
    (ap piece_views c.in_ok-push.ensures.items ∙ map-append piece_view c.loop-section.out.items (c.piece_of.result ∷ []))
    (c.piece_of.ensures ∙ ap (λ (h : SectionHeader). model.piece_of n o.bytes (get_or is i 0) h) c.section.ensures)
    (rest_at is i 0 c.loop-section-test.true)
    c.loop-section.invariant
