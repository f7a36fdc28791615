-- A place that has the numbers of a kept relocation, and tells of it, is its place.
use Rattle.std.proofs.Common.{◌≡◌, ℕ, true, List, Some, refl, subst, sym}
use Rattle.std.specs.List.{slice_get}
use Rattle.elf_model.specs.Link.Loading.{LoadedObject}
use Rattle.elf_model.specs.Inputs.ObjectFile.{relas_of, sections}
use Rattle.elf_model.specs.Link.Relocation.{is_kept_rela, is_some_kind, relocation_of}
use Rattle.elf_model.specs.declared.records.Rela.{Rela}
use Rattle.elf_model.specs.declared.records.SectionHeader.{SectionHeader}
use Rattle.input_names.specs.RelocationPlaces as places
use Rattle.input_names.specs.RelocationPlaces.{IsKeptOf, IsRelocationAt}
use Rattle.input_names.specs.declared.relocation_places.RelocationPlace.{RelocationPlace}

-- it has the numbers of an entry of a loaded object
abbrev pub HasNumbers : RelocationPlace → LoadedObject → SectionHeader → ℕ → ℕ → ℕ → Rela → Type 0
HasNumbers p o h n i e x = places.HasNumbers p o.bytes h n i e x

pub placed :
    (objects : List LoadedObject) (p : RelocationPlace) (o : LoadedObject) (h : SectionHeader) (n i e : ℕ) (x : Rela) → HasNumbers p o h n i e x →
    slice_get objects n ≡ Some o → slice_get (sections o.bytes) i ≡ Some h → is_kept_rela o i h ≡ true →
    slice_get (relas_of o.bytes h) e ≡ Some x → is_some_kind x ≡ true → IsRelocationAt objects p (relocation_of n o h.sh_info x)
placed objects p o h n i e x has there header is_kept listed some = record {
  o = o;
  h = h;
  at = record {
    object = rw has.object there;
    table = rw has.table header;
    kept = rw has.table is_kept;
    entry = rw (has.number, has.entry) listed;
    some_kind = rw has.entry some;
  };
  relocation = rw (has.object, has.entry) refl;
  told = record { section = has.section; section_name = has.section_name; symbol_name = has.symbol_name };
}

pub kept :
    (objects : List LoadedObject) (p : RelocationPlace) (o : LoadedObject) (h : SectionHeader) (n i e : ℕ) (x : Rela) → HasNumbers p o h n i e x →
    IsRelocationAt objects p (relocation_of n o h.sh_info x) → IsKeptOf objects n o p
kept objects p o h n i e x has at =
    subst (λ (y : Rela). IsRelocationAt objects p (relocation_of n o p.section y)) (sym has.entry)
    (subst (λ (k : ℕ). IsRelocationAt objects p (relocation_of n o k x)) (sym has.section) at)
