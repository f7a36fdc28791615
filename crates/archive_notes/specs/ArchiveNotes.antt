-- What is told of an archive and a name that nothing defines: a fact of the member that the archive's index names for it.
use Rattle.std.specs.Prelude.{◌≡◌, ℕ, Bool, true, false, List, [], Option, IfNone, IfSome, IsSomeAnd, codes}
use Rattle.std.specs.List.{slice_get}
use Rattle.elf_model.specs.Inputs.ObjectFile.{IsObject, name_of_symbol, symbols}
use Rattle.elf_model.specs.Inputs.Opening.{Opened, archive_data, archive_entries}
use Rattle.elf_model.specs.Link.Loading.{LoadedObject, is_definition, is_taken}
use Rattle.elf_model.specs.declared.records.Symbol.{Symbol}
use Rattle.archive_notes.specs.declared.note.ArchiveFact.{ArchiveFact}
use Rattle.archive_notes.specs.declared.note.ArchiveFact.TheVariants as fact
use Rattle.archive_notes.specs.declared.note.ArchiveNote.{ArchiveNote}

-- symbol j of an object defines a name for other objects, in a section that may be dropped; it is the one by which gcc says that the
-- object has no code of its own
abbrev pub defines : Symbol → Bool
defines s = is_definition [] s

abbrev pub IsDefinitionAt : List ℕ → List ℕ → ℕ → Type 0
IsDefinitionAt bytes name j = IsSomeAnd (slice_get (symbols bytes) j) (λ s. (defines s ≡ true) × (name_of_symbol bytes s ≡ name))

abbrev pub slim_name : List ℕ
slim_name = codes "__gnu_lto_slim"

abbrev pub IsSlimAt : List ℕ → ℕ → Type 0
IsSlimAt bytes j = IsSomeAnd (slice_get (symbols bytes) j) (λ s. name_of_symbol bytes s ≡ slim_name)

-- some symbol of an object defines a name
abbrev pub Defines : List ℕ → List ℕ → Type 0
Defines bytes name = (j : ℕ) × IsDefinitionAt bytes name j

-- facts of a member, given whether it is loaded
abbrev pub Stands : Bool → List ℕ → List ℕ → ArchiveFact → Type 0
Stands taken bytes name fact.Passed = (taken ≡ false) × Defines bytes name
Stands taken bytes name fact.Dropped = (taken ≡ true) × Defines bytes name
Stands taken bytes name fact.Slim = (j : ℕ) × IsSlimAt bytes j
Stands taken bytes name fact.Stale = ¬ Defines bytes name

-- of the member of an item whose header is at an offset: it is an object, and the fact is so
pub record IsFact (objects : List LoadedObject) (item : Opened) (name : List ℕ) (offset : ℕ) (f : ArchiveFact) : Type 0 where
  pub object : IsObject (archive_data item.bytes offset)
  pub stands : Stands (is_taken objects item.number offset) (archive_data item.bytes offset) name f

-- entry i of an archive's index names a member for a name; it names an object
abbrev pub IsEntryAt : List ℕ → List ℕ → ℕ → (ℕ → Type 0) → Type 0
IsEntryAt bytes name i At = IsSomeAnd (slice_get (archive_entries bytes) i) (λ e. (e.name ≡ name) × At e.offset)

abbrev pub NamesObject : List ℕ → List ℕ → ℕ → Type 0
NamesObject bytes name i = IsEntryAt bytes name i (λ offset. IsObject (archive_data bytes offset))

-- a note is of an archive, whose index names the member for the name
pub record IsNoteOf (objects : List LoadedObject) (item : Opened) (n : ArchiveNote) : Type 0 where
  pub archive : item.archive ≡ true
  pub number : n.item ≡ item.number
  pub path : n.path.now ≡ item.path
  pub indexed : (i : ℕ) × IsEntryAt item.bytes n.name.now i (λ offset. n.offset ≡ offset)
  pub fact_is : IsFact objects item n.name.now n.offset n.fact

-- of one of some opened items
pub record IsNoteIn (objects : List LoadedObject) (items : List Opened) (n : ArchiveNote) : Type 0 where
  pub k : ℕ
  pub there : IsSomeAnd (slice_get items k) (λ item. IsNoteOf objects item n)

-- the index of an archive among them names an object for a name
abbrev pub IsNamedBy : List ℕ → Opened → Type 0
IsNamedBy name item = (item.archive ≡ true) × ((i : ℕ) × NamesObject item.bytes name i)

abbrev pub IsNamedIn : List Opened → List ℕ → Type 0
IsNamedIn items name = (k : ℕ) × IsSomeAnd (slice_get items k) (IsNamedBy name)

-- what is told of a name: a note of it, and none only where no index names an object for it
pub record IsTold (objects : List LoadedObject) (items : List Opened) (name : List ℕ) (o : Option ArchiveNote) : Type 0 where
  pub so : IfSome o (λ n. (n.name.now ≡ name) × IsNoteIn objects items n)
  pub none : IfNone o (¬ IsNamedIn items name)
