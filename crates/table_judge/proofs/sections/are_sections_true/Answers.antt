use Rattle.std.proofs.Common.{◌∙◌, ℕ, List, ap, subst, sym}
use Rattle.std.specs.Prelude.{◌↔◌, All, IsTrue}
use Rattle.elf_model.specs.Image.MemoryImage.{loads}
use Rattle.table_judge.proofs.Truth.{all_true}
use Rattle.table_judge.specs.Sections.{IsTrueIn}
use Rattle.table_judge.proofs.sections.are_sections_true.Goals as goal

pub are_true_in-requires : goal.are_true_in-requires
are_true_in-requires c = c.segments.ensures ∙ ap loads (sym c.image.ensures.bytes)

pub returns : goal.returns
returns c =
    let told =
    subst (λ (f : List ℕ). IsTrue c.are_true_in.result ↔ All (IsTrueIn f) c.args.headers.now) c.image.ensures.bytes c.are_true_in.ensures in
    let law = all_true c.args.image.now c.args.headers.now in (
      λ yes. law.0 (told.0 yes),
      λ all. told.1 (law.1 all),
    )
