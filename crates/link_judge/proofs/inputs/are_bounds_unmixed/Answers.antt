use Rattle.std.proofs.Common.{◌∙◌, ap, map, sym}
use Rattle.judge_model.specs.Certificates.{name_row}
use Rattle.judge_model.specs.Links.{ForeignLink}
use Rattle.link_judge.proofs.inputs.are_bounds_unmixed.Goals as goal

pub returns : goal.returns
returns c =
    let l = c.args.loaded.now in
    let same = c.behind-loaded.view_is ∙ c.claim.ensures in
    let told =
    c.are_names_unmixed-unmixed.ensures l (sym c.names.ensures) (sym (c.in_ok-outputs.ensures ∙ c.pieces.ensures))
    (sym (ap (map name_row) c.deref.ensures.value ∙ ap (λ (x : ForeignLink). x.certificate.names) same)) in
    (told.0, told.1)
