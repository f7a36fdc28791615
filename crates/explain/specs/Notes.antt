-- What a note says of the symbol that a relocation names.
use Rattle.std.specs.Prelude.{◌≡◌, ℕ, Bool, true, false, List, Option, None, Some, IfSome}
use Rattle.std.specs.List.{slice_get}
use Rattle.elf_model.specs.Inputs.Files.{File}
use Rattle.elf_model.specs.Inputs.ObjectFile.{rela_symbol}
use Rattle.elf_model.specs.Link.LinkerNames.{named_output}
use Rattle.elf_model.specs.Link.Loading.{LoadedObject}
use Rattle.elf_model.specs.Link.Pieces.{is_executable, is_kept, is_nobits, is_thread_local, is_writable, output_name}
use Rattle.elf_model.specs.Link.Relocation.{IsUndefined, is_local, symbol_at}
use Rattle.elf_model.specs.Link.Resolution.{SymbolOf, chosen, is_in_thread_section}
use Rattle.elf_model.specs.declared.records.SectionHeader.{SectionHeader}
use Rattle.input_names.specs.declared.relocation_places.RelocationPlace.{RelocationPlace}
use Rattle.resolve.specs.Views.{symbol_view}
use Rattle.search.specs.Faults.{IsObjectAt}
use Rattle.search.specs.Loads.{LoadedPlan}
use Rattle.search.specs.declared.loader.Reached.{Reached}
use Rattle.explain.specs.Places.{IsLoadedAt, IsLoadedBy, IsSectionOf}
use Rattle.explain.specs.declared.notes.Fact.{Fact}
use Rattle.explain.specs.declared.notes.Fact.TheVariants as fact
use Rattle.explain.specs.declared.notes.Note.{Note}
use Rattle.explain.specs.declared.unlike_sections.KeptSection.{KeptSection}

-- something stands of the symbol that the relocation of a place names
pub record IsOfSymbol (objects : List LoadedObject) (p : RelocationPlace) (Stands : SymbolOf → Type 0) : Type 0 where
  pub o : LoadedObject
  pub there : slice_get objects p.object ≡ Some o
  pub stands : Stands (symbol_at p.object o (rela_symbol p.entry))

-- a symbol isn't LOCAL, and its name means another one, of the object that is told; whether that is in a section with SHF_TLS
pub record IsDefinedBy (objects : List LoadedObject) (at : Reached) (d : SymbolOf) (inside : Bool) (s : SymbolOf) : Type 0 where
  pub free : is_local s ≡ false
  pub chosen_is : chosen objects s.name ≡ Some d
  pub object : LoadedObject
  pub there : slice_get objects d.object ≡ Some object
  pub at_object : IsObjectAt at object
  pub inside_is : inside ≡ is_in_thread_section objects d

-- sections are alike in all in which those of one output section are, but for its name
pub record AreAlike (h k : SectionHeader) : Type 0 where
  pub writable : is_writable h ≡ is_writable k
  pub executable : is_executable h ≡ is_executable k
  pub thread_local : is_thread_local h ≡ is_thread_local k
  pub nobits : is_nobits h ≡ is_nobits k

-- a kept section of an object, which is of an output name, and unlike another one, where there is that one
pub record IsSought (objects : List LoadedObject) (output : List ℕ) (other : Option SectionHeader) (s : KeptSection) : Type 0 where
  pub at : IsLoadedAt objects s.place.object s.object (λ o. IsSectionOf o s.place × (is_kept o s.place.number s.place.entry ≡ true))
  pub output_is : output_name s.place.name.now ≡ output
  pub unlike : IfSome other (λ h. ¬ AreAlike h s.place.entry)

-- two of an output name, which are of two output sections
pub record AreOfTwo (objects : List LoadedObject) (output : List ℕ) (s t : KeptSection) : Type 0 where
  pub first : IsSought objects output None s
  pub second : IsSought objects output (Some s.place.entry) t

-- what is told beside the relocation of a place
abbrev pub IsFact : List LoadedObject → RelocationPlace → Fact → Type 0
IsFact objects p fact.Undefined = IsOfSymbol objects p (IsUndefined objects)
IsFact objects p (fact.Defined at d inside) = IsOfSymbol objects p (IsDefinedBy objects at (symbol_view d) inside)
IsFact objects p (fact.Bounds s t) = IsOfSymbol objects p (λ u. AreOfTwo objects (named_output u.name) s t)

abbrev pub IsNote : LoadedPlan → Note → Type 0
IsNote l n = IsFact l.objects n.beside n.fact

-- it is so of what words load from files
abbrev pub IsNoteOf : List File → List (List ℕ) → Note → Type 0
IsNoteOf files words n = (l : LoadedPlan) × IsLoadedBy files words l × IsNote l n
