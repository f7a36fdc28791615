use Rattle.std.proofs.Common.{◌≡◌, ◌∙◌, List, ap, map, subst}
use Rattle.std.specs.Prelude.{IfOk, filter}
use Rattle.elf_model.specs.Image.MapRecord.{place_row}
use Rattle.elf_model.specs.Link.Pieces.{Piece}
use Rattle.check_link.specs.Views.{piece_views}
use Rattle.judge_model.specs.Links.{ForeignLink}
use Rattle.judge_stages.specs.Stages.{is_plain_by, key_of}
use Rattle.judge_stages.proofs.PlainLaws.{plain_found}
use Rattle.judge_stages.proofs.loaded_claim.plain_pieces.Goals as goal

pub returns : goal.returns
returns c =
    let l = c.args.loaded.now in
    let lines : map place_row c.deref.result.now ≡ l.certificate.places =
    ap (map place_row) c.deref.ensures.value ∙ ap (λ (x : ForeignLink). x.certificate.places) (c.claim.view_is ∙ c.claim-claim.ensures) in
    let keys : c.new.result ≡ map key_of l.certificate.places = c.new.ensures ∙ (c.deref-2.ensures.value ∙ (c.in_ok-keys.ensures.keys ∙ ap (map key_of) lines)) in
    subst (λ (ps : List Piece). IfOk c.plain_among.result (λ v. piece_views v.items ≡ ps))
    ((λ j. filter (is_plain_by (keys j)) (c.pieces.ensures j)) ∙ plain_found l)
    c.plain_among.ensures
