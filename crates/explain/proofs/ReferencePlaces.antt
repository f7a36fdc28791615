-- An entry that is a kept relocation, at the place that is made of it.
use Rattle.std.proofs.Common.{◌≡◌, ◌∙◌, ℕ, List, Some, ap, get_or, subst, sym}
use Rattle.std.specs.List.{slice_get}
use Rattle.std.proofs.lemmas.Bool.{and_parts, eqb-true}
use Rattle.std.proofs.lemmas.Option.{get_or_from_slice_get, same_Some}
use Rattle.elf_model.specs.Inputs.ObjectFile.{null_section, relas_of, section, sections}
use Rattle.elf_model.specs.Link.Loading.{LoadedObject}
use Rattle.elf_model.specs.declared.records.Rela.{Rela}
use Rattle.elf_model.specs.declared.records.SectionHeader.{SectionHeader}
use Rattle.input_names.proofs.KeptPlaces.{HasNumbers, placed}
use Rattle.input_names.specs.RelocationPlaces.{IsRelocationAt}
use Rattle.input_names.specs.declared.relocation_places.RelocationPlace.{RelocationPlace}
use Rattle.wrong_references.specs.References.{IsKeptEntry, relocation_at}
use Rattle.wrong_references.specs.declared.flaw.EntryNumber.{EntryNumber}

module _ (objects : List LoadedObject) (k : ℕ) (at : EntryNumber) (e : IsKeptEntry objects k at) (o : LoadedObject) (there : slice_get objects k ≡ Some o) where
  pub object_is : e.o ≡ o
  object_is = same_Some e.o o (sym e.object ∙ there)

  -- the header of its section
  pub header_there : slice_get (sections o.bytes) at.table ≡ Some e.h
  header_there = subst (λ (x : LoadedObject). slice_get (sections x.bytes) at.table ≡ Some e.h) object_is e.table

  pub header_is : section (sections o.bytes) at.table ≡ e.h
  header_is = get_or_from_slice_get (sections o.bytes) at.table e.h null_section header_there

  pub header_at : slice_get (sections o.bytes) at.table ≡ Some (section (sections o.bytes) at.table)
  header_at = header_there ∙ ap Some (sym header_is)

  pub is_rela : (section (sections o.bytes) at.table).sh_type ≡ 4
  is_rela = subst (λ (h : SectionHeader). h.sh_type ≡ 4) (sym header_is) (eqb-true e.h.sh_type 4 (and_parts _ _ e.kept).0)

  pub entry_there : slice_get (relas_of o.bytes (section (sections o.bytes) at.table)) at.number ≡ Some e.x
  entry_there =
      subst (λ (h : SectionHeader). slice_get (relas_of o.bytes h) at.number ≡ Some e.x) (sym header_is)
      (subst (λ (x : LoadedObject). slice_get (relas_of x.bytes e.h) at.number ≡ Some e.x) object_is e.entry)

  pub entry_is : (d : Rela) → (x : Rela) → x ≡ get_or (relas_of o.bytes (section (sections o.bytes) at.table)) at.number d → x ≡ e.x
  entry_is d x is = is ∙ get_or_from_slice_get (relas_of o.bytes (section (sections o.bytes) at.table)) at.number e.x d entry_there

  -- the place that has these numbers
  pub place_is :
      (p : RelocationPlace) (x : Rela) → x ≡ e.x → HasNumbers p o (section (sections o.bytes) at.table) k at.table at.number x → IsRelocationAt objects p (relocation_at e)
  place_is p x is has =
      placed objects p e.o e.h k at.table at.number e.x
      (subst (λ (y : Rela). HasNumbers p e.o e.h k at.table at.number y) is
      (subst (λ (h : SectionHeader). HasNumbers p e.o h k at.table at.number x) header_is
      (subst (λ (y : LoadedObject). HasNumbers p y (section (sections o.bytes) at.table) k at.table at.number x) (sym object_is) has)))
      e.object e.table e.kept e.entry e.some_kind
