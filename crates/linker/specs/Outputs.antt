-- What the linker makes of the loaded objects, and why it refuses them.
use Rattle.std.specs.Prelude.{◌≡◌, ℕ, List, AllPairs, Any, None, Some}
use Rattle.elf_model.specs.Own.Causes.{HasRoom, IsLinkable, IsToDropped, IsToMixed, IsUndefinedName}
use Rattle.elf_model.specs.Inputs.Command.{Plan}
use Rattle.elf_model.specs.Inputs.Files.{File}
use Rattle.elf_model.specs.Own.ImageFile.{IsOwnMap, image_file, own_entry, own_tabled}
use Rattle.elf_model.specs.Link.Loading.{LoadedObject, loaded_objects}
use Rattle.elf_model.specs.Image.MapRecord.{MapRecord}
use Rattle.elf_model.specs.Image.MapText.{IsMap}
use Rattle.elf_model.specs.Image.MapText as map_text
use Rattle.elf_model.specs.Link.Meaning.{Meaning, object_meaning}
use Rattle.elf_model.specs.Own.OwnLayout.{OwnValuesFit}
use Rattle.elf_model.specs.Link.Pieces.{AreLawfulKinds}
use Rattle.elf_model.specs.Link.Relocation.{AreFieldsApart, AreLawfulRelocations, IsFieldInside, IsThreadMismatch, Relocation, relocation_kind, relocations}
use Rattle.elf_model.specs.Link.Resolution.{AreSoundCommons, AreSoundSymbols, AreUnique, IsDuplicate, IsEntry}
use Rattle.elf_model.specs.declared.faults.LinkError.{LinkError}
use Rattle.elf_model.specs.declared.faults.LinkError.TheVariants as error

-- the image and the map of the own layout
pub record IsOwnBytes (p : Plan) (objects : List LoadedObject) (image map : List ℕ) : Type 0 where
  pub record_of : MapRecord
  pub own_map : IsOwnMap p.base objects p.strip record_of
  pub is_map : IsMap record_of
  pub spelled : map ≡ map_text.text record_of
  pub image_is : image ≡ image_file p.base objects (own_entry p.base objects p.entry) (own_tabled p.strip objects record_of.symbols)

-- what stands of objects of the profile before each phase: kinds and names, references, layout, values
pub record AreResolved (objects : List LoadedObject) : Type 0 where
  pub kinds : AreLawfulKinds objects
  pub commons : AreSoundCommons objects
  pub sound : AreSoundSymbols objects
  pub unique : AreUnique objects

pub record AreReferred (p : Plan) (objects : List LoadedObject) : Type 0 where
  pub resolved : AreResolved objects
  pub relocations : AreLawfulRelocations objects
  pub entry : IsEntry objects p.entry

pub record AreLaidOut (p : Plan) (objects : List LoadedObject) : Type 0 where
  pub referred : AreReferred p objects
  pub room : HasRoom p objects

pub record AreLinkable (p : Plan) (objects : List LoadedObject) : Type 0 where
  pub laid_out : AreLaidOut p objects
  pub fits : OwnValuesFit p.base objects

-- names are resolved, and something stands of a kept relocation
abbrev pub RefersBadly : List LoadedObject → (Relocation → Type 0) → Type 0
RefersBadly objects Stands = AreResolved objects × Any Stands (relocations objects)

-- why objects of the profile could not be linked
abbrev pub LinksRefuse : Plan → List LoadedObject → LinkError → Type 0
LinksRefuse p objects error.Memory = Unit {0}
LinksRefuse p objects error.SectionKind = ¬ AreLawfulKinds objects
LinksRefuse p objects (error.Duplicate name) = IsDuplicate objects name.items
LinksRefuse p objects error.BadCommon = ¬ AreSoundCommons objects
LinksRefuse p objects error.BadSymbol = ¬ AreSoundSymbols objects
LinksRefuse p objects (error.Undefined name) = RefersBadly objects (IsUndefinedName name.items objects)
LinksRefuse p objects error.RefToDropped = RefersBadly objects (IsToDropped objects)
LinksRefuse p objects error.RelocKind = RefersBadly objects (λ r. relocation_kind r ≡ None)
LinksRefuse p objects error.FieldOutside = RefersBadly objects (λ r. ¬ IsFieldInside r)
LinksRefuse p objects error.OverlappingFields = AreResolved objects × (¬ AllPairs AreFieldsApart (relocations objects))
LinksRefuse p objects error.TlsMismatch = RefersBadly objects (IsThreadMismatch objects)
LinksRefuse p objects error.MixedSection = RefersBadly objects (IsToMixed objects)
LinksRefuse p objects error.NoEntry = AreResolved objects × (¬ IsEntry objects p.entry)
LinksRefuse p objects error.TooLarge = AreReferred p objects × (¬ HasRoom p objects)
LinksRefuse p objects error.Overflow = AreLaidOut p objects × (¬ OwnValuesFit p.base objects)
LinksRefuse p objects _ = ⊥

-- the definition at which a plan's links enter
abbrev pub EntersAt : Plan → List LoadedObject → Meaning → Type 0
EntersAt p objects m = object_meaning objects p.entry ≡ Some m

-- the link of files by words that the linker makes: the own image and map of the loaded objects
pub record IsOwnLink (files : List File) (words : List (List ℕ)) (image map : List ℕ) : Type 0 where
  pub plan : Plan
  pub linkable : IsLinkable files words plan
  pub bytes : IsOwnBytes plan (loaded_objects files plan) image map
