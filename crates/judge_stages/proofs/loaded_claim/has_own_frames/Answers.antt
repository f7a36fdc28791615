use Rattle.std.proofs.Common.{◌≡◌, ◌∙◌, ap, map}
use Rattle.std.specs.List.{list_any}
use Rattle.elf_model.specs.Image.MapRecord.{place_row}
use Rattle.judge_model.specs.Links.{ForeignLink}
use Rattle.judge_stages.specs.Stages.{has_own_by, key_of}
use Rattle.judge_stages.proofs.PlainLaws.{own_found}
use Rattle.judge_stages.proofs.loaded_claim.has_own_frames.Goals as goal

pub returns : goal.returns
returns c =
    let l = c.args.loaded.now in
    let lines : map place_row c.deref.result.now ≡ l.certificate.places =
    ap (map place_row) c.deref.ensures.value ∙ ap (λ (x : ForeignLink). x.certificate.places) (c.claim.view_is ∙ c.claim-claim.ensures) in
    let keys : c.new.result ≡ map key_of l.certificate.places = c.new.ensures ∙ (c.deref-2.ensures.value ∙ (c.in_ok-keys.ensures.keys ∙ ap (map key_of) lines)) in
    c.has_own.ensures ∙ ((λ j. list_any (has_own_by (keys j)) (c.pieces.ensures j)) ∙ own_found l)
