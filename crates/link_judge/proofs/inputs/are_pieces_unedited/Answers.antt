use Rattle.std.proofs.Common.{◌≡◌, ◌∙◌, List, ap, false, map, sym, subst}
use Rattle.std.specs.Prelude.{◌↔◌, All, IfOk, IsTrue}
use Rattle.check_load.specs.Views.{loaded_views}
use Rattle.elf_model.specs.Image.MapRecord.{place_row}
use Rattle.elf_model.specs.Link.Pieces.{Piece}
use Rattle.judge_model.specs.Links.{ForeignLink, objects_of}
use Rattle.judge_model.specs.RightForeign.{is_edited}
use Rattle.link_judge.proofs.inputs.are_pieces_unedited.Goals as goal

pub returns : goal.returns
returns c =
    let l = c.args.loaded.now in
    let same = c.behind-loaded.view_is ∙ c.claim.ensures in
    let objects : objects_of l ≡ loaded_views c.objects.result.now = sym (c.objects.ensures ∙ c.names.ensures) in
    let places : l.certificate.places ≡ map place_row c.deref.result.now =
    sym (ap (map place_row) c.deref.ensures.value ∙ ap (λ (x : ForeignLink). x.certificate.places) same) in
    subst (λ (ps : List Piece). IfOk c.are_unedited.result (λ b. IsTrue b ↔ All (λ p. is_edited l p ≡ false) ps)) c.pieces.ensures
    (c.are_unedited.ensures l objects places)
