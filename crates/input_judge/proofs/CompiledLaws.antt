-- Sections for link-time optimization, one more at a time.
use Rattle.std.proofs.Common.{◌≡◌, ℕ, ◌+◌, ◌<◌, ◌||◌, Bool, true, false, List, Option, ap, drop, get_or, length, sym, ◌∙◌}
use Rattle.std.specs.Prelude.{option_map}
use Rattle.std.specs.List.{list_any}
use Rattle.std.specs.Option.{option_map_or}
use Rattle.std.proofs.lemmas.Option.{slice_get-get_or}
use Rattle.check_load.proofs.NotedNames.{any_more}
use Rattle.elf_model.specs.Inputs.ObjectFile.{name_of_section, section_name, sections}
use Rattle.elf_model.specs.declared.records.SectionHeader.{SectionHeader}
use Rattle.input_judge.specs.Compiled.{is_lto_name}

module _ (bytes : List ℕ) (i : ℕ) (d : SectionHeader) (low : i < length (sections bytes)) (total : Bool) (left : total ≡ list_any (λ h. is_lto_name (name_of_section bytes h)) (drop i (sections bytes))) where
  here : option_map_or is_lto_name (section_name bytes i) false ≡ is_lto_name (name_of_section bytes (get_or (sections bytes) i d))
  here = ap (λ (o : Option SectionHeader). option_map_or is_lto_name (option_map (name_of_section bytes) o) false) (slice_get-get_or (sections bytes) i d low)

  split : total ≡ (option_map_or is_lto_name (section_name bytes i) false || list_any (λ h. is_lto_name (name_of_section bytes h)) (drop (i + 1) (sections bytes)))
  split =
      left ∙ (any_more (λ h. is_lto_name (name_of_section bytes h)) (sections bytes) i d low
      ∙ ap (λ (b : Bool). b || list_any (λ h. is_lto_name (name_of_section bytes h)) (drop (i + 1) (sections bytes))) (sym here))

  pub lto_stop : option_map_or is_lto_name (section_name bytes i) false ≡ true → total ≡ true
  lto_stop one = split ∙ ap (λ (b : Bool). b || list_any (λ h. is_lto_name (name_of_section bytes h)) (drop (i + 1) (sections bytes))) one

  pub lto_more : option_map_or is_lto_name (section_name bytes i) false ≡ false → total ≡ list_any (λ h. is_lto_name (name_of_section bytes h)) (drop (i + 1) (sections bytes))
  lto_more none = split ∙ ap (λ (b : Bool). b || list_any (λ h. is_lto_name (name_of_section bytes h)) (drop (i + 1) (sections bytes))) none
