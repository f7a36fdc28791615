use Rattle.std.proofs.Common.{◌≡◌, List, subst, true}
use Rattle.std.specs.Prelude.{◌↔◌, All, Any, IsTrue}
use Rattle.std.proofs.lemmas.List.Elements.{All-weaker}
use Rattle.elf_model.specs.Image.MemoryImage.{loads}
use Rattle.elf_model.specs.declared.records.ProgramHeader.{ProgramHeader}
use Rattle.judge_model.specs.Merged.{HoldsArea}
use Rattle.judge_model.specs.declared.certificate.StretchLine.{StretchLine}
use Rattle.merge_judge.specs.Areas.{IsHeld}
use Rattle.merge_judge.proofs.AreaLaws.{areas_fit}
use Rattle.merge_judge.proofs.areas.are_areas_right.Goals as goal

pub returns : goal.returns
returns c =
    let areas = c.args.areas.now in
    let right : IsTrue c.are_held.result ↔ All (λ a. Any (HoldsArea c.args.anyway a) (loads c.args.image.now)) areas =
    subst (λ (hs : List ProgramHeader). IsTrue c.are_held.result ↔ All (λ a. Any (HoldsArea c.args.anyway a) hs) areas) c.segments.ensures (
      λ t. All-weaker (IsHeld c.args.anyway c.segments.result.now) (λ (a : StretchLine). Any (HoldsArea c.args.anyway a) c.segments.result.now) (λ a h. h.held) areas (c.are_held.ensures.0 t),
      λ all. c.are_held.ensures.1
          (All-weaker (λ (a : StretchLine). Any (HoldsArea c.args.anyway a) c.segments.result.now) (IsHeld c.args.anyway c.segments.result.now) (λ a h. record { held = h }) areas all),
    ) in
    record {
      right = right;
      enclosed = λ t. areas_fit c.args.image.now c.args.anyway areas c.image-program.ensures.program (right.0 t);
    }
