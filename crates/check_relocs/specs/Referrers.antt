-- An object whose relocations are gone through, as the definitions have it.
use Rattle.std.specs.Prelude.{ℕ, List}
use Rattle.elf_model.specs.Link.Loading.{LoadedObject}
use Rattle.elf_model.specs.Link.Relocation.{Relocation, relocation_of, relocations_from, symbol_at}
use Rattle.elf_model.specs.Link.Resolution.{SymbolOf}
use Rattle.elf_model.specs.declared.records.Rela.{Rela}
use Rattle.check_load.specs.KeptRelocations.{relocation_at}
use Rattle.check_load.specs.Views.{loaded_view}
use Rattle.check_load.specs.declared.kept_relocations.KeptRelocation.{KeptRelocation}
use Rattle.check_relocs.specs.declared.referrer.Referrer.{Referrer}

-- all objects of the link, and the one itself
abbrev pub objects_here : Referrer → List LoadedObject
objects_here r = r.bindings.now.objects

abbrev pub object_here : Referrer → LoadedObject
object_here r = loaded_view r.loaded.now

-- its symbol number j
abbrev pub symbol_here : Referrer → ℕ → SymbolOf
symbol_here r j = symbol_at r.number (object_here r) j

-- one of its kept relocations, an entry that relocates a section, and all kept relocations
abbrev pub relocation_here : Referrer → KeptRelocation → Relocation
relocation_here r k = relocation_at r.number (object_here r) k

abbrev pub entry_here : Referrer → ℕ → Rela → Relocation
entry_here r section e = relocation_of r.number (object_here r) section e

abbrev pub relocations_here : Referrer → List Relocation
relocations_here r = relocations_from r.number (object_here r)
