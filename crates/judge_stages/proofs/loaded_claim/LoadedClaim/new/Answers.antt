use Rattle.std.proofs.Common.{◌≡◌, ◌∙◌, ap}
use Rattle.std.specs.Prelude.{filter}
use Rattle.elf_model.specs.Link.Pieces.{kept_sections}
use Rattle.judge_model.specs.Links.{ForeignLink}
use Rattle.judge_stages.specs.Stages.{is_there}
use Rattle.judge_stages.proofs.loaded_claim.LoadedClaim.new.Goals as goal

pub invariant_of-result : goal.invariant_of-result
invariant_of-result c =
    let l = c.args.claim.now in
    let drops : c.new-drops.result ≡ l.certificate.drops =
    c.new-drops.ensures ∙ (c.deref.ensures.value ∙ ap (λ (x : ForeignLink). x.certificate.drops) c.claim.view_is) in
    record {
      names = c.in_ok-names.ensures ∙ c.requires.objects;
      drops_are = drops;
      pieces = c.in_ok-pieces.ensures ∙ (λ j. filter (is_there (drops j)) (kept_sections (c.requires.objects j)));
    }
