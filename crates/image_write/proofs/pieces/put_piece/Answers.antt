use Rattle.std.proofs.Common.{◌∙◌, ap, sym}
use Rattle.elf_model.specs.Own.OwnLayout.{own_where}
use Rattle.layout.specs.Placements.{Basis}
use Rattle.placing.specs.Views.{piece_view}
use Rattle.image_write.specs.Parts.{bytes_of, got_of}
use Rattle.image_write.proofs.GotBytes.{got_wanted, own_got_is}
use Rattle.image_write.proofs.StreamLaws.{puts_are}
use Rattle.image_write.proofs.pieces.put_piece.Goals as goal

pub returns-then-is_got : goal.returns-then-is_got
returns-then-is_got g c =
    let b = c.args.contents.now.placement.now in
    let is = sym c.is_got.ensures ∙ c.if-is_got.true in
    puts_are _ _ _ _ _
    (ap got_of c.requires.contents.slots
    ∙ (own_got_is b.base b.objects ∙ got_wanted b.objects (own_where b.base b.objects) (piece_view c.args.piece.now) is (c.requires.full.got is)))
    c.put_got.ensures

pub returns : goal.returns
returns g c =
    puts_are _ _ _ _ _
    (ap (λ (b : Basis). bytes_of b.objects (own_where b.base b.objects) (piece_view c.args.piece.now)) c.requires.contents.patches)
    c.put_section.ensures
