use Rattle.std.proofs.Common.{◌≡◌, ◌∙◌, List, ap, map, sym, subst}
use Rattle.std.specs.Prelude.{◌↔◌, All, IfOk, IsTrue}
use Rattle.elf_model.specs.Image.MapRecord.{place_row}
use Rattle.elf_model.specs.Link.Pieces.{Piece}
use Rattle.judge_model.specs.Links.{ForeignLink}
use Rattle.judge_model.specs.RightForeign.{IsJoined}
use Rattle.link_judge.proofs.inputs.are_properties_joined.Goals as goal

pub returns : goal.returns
returns c =
    let l = c.args.loaded.now in
    let same = c.behind-loaded.view_is ∙ c.claim.ensures in
    let places : l.certificate.places ≡ map place_row c.deref.result.now =
    sym (ap (map place_row) c.deref.ensures.value ∙ ap (λ (x : ForeignLink). x.certificate.places) same) in
    subst (λ (ps : List Piece). IfOk c.are_notes_joined.result (λ b. IsTrue b ↔ All (IsJoined l) ps)) c.pieces.ensures
    (c.are_notes_joined.ensures l places)
