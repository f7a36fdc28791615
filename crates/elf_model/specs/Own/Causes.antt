-- When a link is refused, and by which error (profile). The phases are the words, the files, loading,
-- resolution, references, layout and values; an error stands only where no fault of an earlier phase does. What
-- loading takes from archives depends on what stands before it, so a fault of a member and one of groups stand
-- only where loading comes to them.
use Rattle.std.specs.Prelude.{◌≡◌, ◌≢◌, ◌⊎◌, ℕ, true, false, List, ◌∷◌, ◌++◌, None, IsSome, Ok, Err, AllPairs, Any}
use Rattle.elf_model.specs.Inputs.ArchiveFile.{ArFaultStands, IsArchive}
use Rattle.elf_model.specs.Inputs.Command.{Plan, command_of}
use Rattle.elf_model.specs.Inputs.Files.{File}
use Rattle.elf_model.specs.Link.Groups.{GroupFaultStands}
use Rattle.elf_model.specs.Own.ImageFile.{IsTableSmall}
use Rattle.elf_model.specs.Link.Loading.{LoadedObject, loaded_objects, AreObjects, HaveLawfulGroups}
use Rattle.elf_model.specs.Inputs.ObjectFile.{IsObject, ObjFaultStands, groups}
use Rattle.elf_model.specs.Inputs.Opening.{AreArchives, AreFilesThere, HaveIndexes, Opened, lacks_index, opened}
use Rattle.elf_model.specs.Own.OwnLayout.{IsNotTooLarge, OwnValuesFit}
use Rattle.elf_model.specs.Link.Pieces.{AreLawfulKinds}
use Rattle.elf_model.specs.Link.Relocation.{Relocation, AreFieldsApart, AreLawfulRelocations, IsFieldInside, IsThreadMismatch, IsUndefined, RefersToDropped, RefersToMixed, relocation_kind, relocations}
use Rattle.elf_model.specs.Link.Resolution.{IsDuplicate, AreSoundCommons, AreUnique, AreSoundSymbols, IsEntry}
use Rattle.elf_model.specs.declared.faults.ArFault.{ArFault}
use Rattle.elf_model.specs.declared.faults.ArFault.TheVariants as archive_fault
use Rattle.elf_model.specs.declared.faults.GroupFault.{GroupFault}
use Rattle.elf_model.specs.declared.faults.GroupFault.TheVariants as group_fault
use Rattle.elf_model.specs.declared.faults.LinkError.{LinkError}
use Rattle.elf_model.specs.declared.faults.LinkError.TheVariants as error
use Rattle.elf_model.specs.declared.faults.ObjFault.{ObjFault}
use Rattle.elf_model.specs.declared.faults.ObjFault.TheVariants as fault

-- no fault of a phase stands, nor of those before it
pub record HasFiles (files : List File) (words : List (List ℕ)) (p : Plan) : Type 0 where
  pub words_are : command_of words ≡ Ok p
  pub files_are : AreFilesThere files p

pub record HasArchives (files : List File) (words : List (List ℕ)) (p : Plan) : Type 0 where
  pub before : HasFiles files words p
  pub archives : AreArchives (opened files p)
  pub indexes : HaveIndexes (opened files p)

pub record HasObjects (files : List File) (words : List (List ℕ)) (p : Plan) : Type 0 where
  pub before : HasArchives files words p
  pub objects : AreObjects (loaded_objects files p)
  pub groups : HaveLawfulGroups (loaded_objects files p)

pub record IsResolved (files : List File) (words : List (List ℕ)) (p : Plan) : Type 0 where
  pub before : HasObjects files words p
  pub kinds : AreLawfulKinds (loaded_objects files p)
  pub commons : AreSoundCommons (loaded_objects files p)
  pub sound : AreSoundSymbols (loaded_objects files p)
  pub unique : AreUnique (loaded_objects files p)

pub record IsReferred (files : List File) (words : List (List ℕ)) (p : Plan) : Type 0 where
  pub before : IsResolved files words p
  pub relocations : AreLawfulRelocations (loaded_objects files p)
  pub entry : IsEntry (loaded_objects files p) p.entry

-- TooLarge does not stand: the layout ends within the addresses, and the image, with its symbol table where there is to
-- be one, has fewer than 2^32 bytes
pub record HasRoom (p : Plan) (objects : List LoadedObject) : Type 0 where
  pub layout : IsNotTooLarge p.base objects
  pub table : p.strip ≡ false → IsTableSmall p.base objects

pub record IsLaidOut (files : List File) (words : List (List ℕ)) (p : Plan) : Type 0 where
  pub before : IsReferred files words p
  pub room : HasRoom p (loaded_objects files p)

-- no cause of a refusal stands
pub record IsLinkable (files : List File) (words : List (List ℕ)) (p : Plan) : Type 0 where
  pub before : IsLaidOut files words p
  pub fits : OwnValuesFit p.base (loaded_objects files p)

-- An opened item is an object of which the fault stands, an archive of which it stands, or an archive without
-- the index by which it would be searched.
abbrev pub IsBadObject : ObjFault → Opened → Type 0
IsBadObject f o = (o.archive ≡ false) × ObjFaultStands o.bytes f

abbrev pub IsBadArchive : ArFault → Opened → Type 0
IsBadArchive f o = (o.archive ≡ true) × ArFaultStands o.bytes f

abbrev pub IsWithoutIndex : Opened → Type 0
IsWithoutIndex o = (o.archive ≡ true) × IsArchive o.bytes × (lacks_index o ≡ true)

-- loading reaches an object of which something stands: all before it are objects with lawful groups
pub record Reaches (objects : List LoadedObject) (Stands : LoadedObject → Type 0) : Type 0 where
  pub front : List LoadedObject
  pub reached : LoadedObject
  pub rest : List LoadedObject
  pub order : objects ≡ front ++ reached ∷ rest
  pub are_objects : AreObjects front
  pub lawful : HaveLawfulGroups front
  pub stands : Stands reached

-- the groups of an object have a fault
abbrev pub HasBadGroups : GroupFault → LoadedObject → Type 0
HasBadGroups f o = IsObject o.bytes × GroupFaultStands (groups o.bytes) f

-- a kept relocation of which something stands
abbrev pub AnyRelocation : List File → List (List ℕ) → (List LoadedObject → Relocation → Type 0) → Type 0
AnyRelocation files words Stands =
    (p : Plan) × IsResolved files words p × Any (Stands (loaded_objects files p)) (relocations (loaded_objects files p))

-- it is of a known kind, and names a symbol of this name that has no definition
abbrev pub IsUndefinedName : List ℕ → List LoadedObject → Relocation → Type 0
IsUndefinedName name objects r = IsSome (relocation_kind r) × IsUndefined objects r.symbol × (r.symbol.name ≡ name)

-- it is of a known kind, and names a LOCAL symbol of a section that isn't kept
abbrev pub IsToDropped : List LoadedObject → Relocation → Type 0
IsToDropped objects r = IsSome (relocation_kind r) × RefersToDropped objects r

-- it is of a known kind, and uses a bound of several output sections
abbrev pub IsToMixed : List LoadedObject → Relocation → Type 0
IsToMixed objects r = IsSome (relocation_kind r) × RefersToMixed objects r

-- what stands where an error is answered; want of memory has no cause in the inputs
abbrev pub Cause : List File → List (List ℕ) → LinkError → Type 0
Cause files words error.Memory = Unit {0}
Cause files words (error.Command f) = command_of words ≡ Err f
Cause files words error.FileMissing = (p : Plan) × (command_of words ≡ Ok p) × (¬ AreFilesThere files p)
Cause files words (error.BadObject f) =
    (p : Plan)
    × HasFiles files words p
    × (f ≢ fault.Memory)
    × (Any (IsBadObject f) (opened files p) ⊎ (HasArchives files words p × Reaches (loaded_objects files p) (λ o. ObjFaultStands o.bytes f)))
Cause files words (error.BadArchive f) =
    (p : Plan) × HasFiles files words p × (f ≢ archive_fault.Memory) × Any (IsBadArchive f) (opened files p)
Cause files words error.NoIndex =
    (p : Plan) × HasFiles files words p × Any IsWithoutIndex (opened files p)
Cause files words (error.BadGroup f) =
    (p : Plan) × HasArchives files words p × (f ≢ group_fault.Memory) × Reaches (loaded_objects files p) (HasBadGroups f)
Cause files words error.SectionKind = (p : Plan) × HasObjects files words p × (¬ AreLawfulKinds (loaded_objects files p))
Cause files words (error.Duplicate name) = (p : Plan) × HasObjects files words p × IsDuplicate (loaded_objects files p) name.items
Cause files words error.BadCommon = (p : Plan) × HasObjects files words p × (¬ AreSoundCommons (loaded_objects files p))
Cause files words error.BadSymbol = (p : Plan) × HasObjects files words p × (¬ AreSoundSymbols (loaded_objects files p))
Cause files words (error.Undefined name) = AnyRelocation files words (IsUndefinedName name.items)
Cause files words error.RefToDropped = AnyRelocation files words IsToDropped
Cause files words error.RelocKind = AnyRelocation files words (λ objects r. relocation_kind r ≡ None)
Cause files words error.FieldOutside = AnyRelocation files words (λ objects r. ¬ IsFieldInside r)
Cause files words error.OverlappingFields =
    (p : Plan) × IsResolved files words p × (¬ AllPairs AreFieldsApart (relocations (loaded_objects files p)))
Cause files words error.TlsMismatch = AnyRelocation files words IsThreadMismatch
Cause files words error.MixedSection = AnyRelocation files words IsToMixed
Cause files words error.NoEntry = (p : Plan) × IsResolved files words p × (¬ IsEntry (loaded_objects files p) p.entry)
Cause files words error.TooLarge = (p : Plan) × IsReferred files words p × (¬ HasRoom p (loaded_objects files p))
Cause files words error.Overflow = (p : Plan) × IsLaidOut files words p × (¬ OwnValuesFit p.base (loaded_objects files p))
