use Rattle.std.proofs.Common.{◌≡◌, drop}
use Rattle.std.specs.List.{list_any}
use Rattle.check_load.specs.Views.{loaded_view}
use Rattle.elf_model.specs.Inputs.ObjectFile.{name_of_section, sections}
use Rattle.judge_model.specs.RightForeign.{is_lto}
use Rattle.input_judge.specs.Compiled.{is_lto_name}
use Rattle.input_judge.proofs.compiled.is_compiled.Given as goal

abbrev pub invariant-loop-section : goal.invariant-loop-section
invariant-loop-section l =
    is_lto (loaded_view l.loaded)
    ≡ list_any (λ h. is_lto_name (name_of_section l.loaded.object h)) (drop l.section (sections l.loaded.object))
