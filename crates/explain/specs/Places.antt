-- What a place of an explanation says, and the cause that it carries.
use Rattle.std.specs.Prelude.{◌≡◌, ◌≢◌, ◌⊎◌, ◌<◌, ◌+◌, ◌%◌, ◌^◌, ℕ, true, List, [], Option, Some, Ok, Err, All, IfSome, unwrap_or}
use Rattle.std.specs.List.{slice_get}
use Rattle.elf_model.specs.Own.Causes.{AnyRelocation, Cause, HasFiles, HasObjects, IsBadArchive, IsResolved, IsUndefinedName, IsWithoutIndex}
use Rattle.elf_model.specs.Inputs.Command.{IsBase, Item, Plan, command_of}
use Rattle.elf_model.specs.Inputs.Files.{File}
use Rattle.elf_model.specs.Link.Loading.{LoadedObject, loaded_objects}
use Rattle.elf_model.specs.Inputs.ObjectFile.{section_name, sections, symbol_name, symbols}
use Rattle.elf_model.specs.Link.Relocation.{Relocation}
use Rattle.elf_model.specs.Inputs.Opening.{HasFile, Opened, opened}
use Rattle.elf_model.specs.Link.Pieces.{AreLawfulKinds, is_kept}
use Rattle.elf_model.specs.Link.Placement.{section_address}
use Rattle.elf_model.specs.Link.RelocationValues.{Fits, value_of}
use Rattle.elf_model.specs.Link.Slots as wanted_slots
use Rattle.elf_model.specs.Link.Resolution.{IsDuplicate, IsEntry, IsSoundCommon, IsSoundSymbol, SymbolOf, is_strong, symbol_of}
use Rattle.elf_model.specs.declared.faults.ArFault.{ArFault}
use Rattle.elf_model.specs.declared.faults.ArFault.TheVariants as archive_fault
use Rattle.elf_model.specs.declared.faults.CmdFault.{CmdFault}
use Rattle.elf_model.specs.declared.faults.LinkError.{LinkError}
use Rattle.elf_model.specs.declared.faults.LinkError.TheVariants as error
use Rattle.elf_model.specs.declared.records.SectionHeader.{SectionHeader}
use Rattle.elf_model.specs.declared.records.Symbol.{Symbol}
use Rattle.bad_members.specs.BadMembers.{IsBadMember}
use Rattle.bad_parts.specs.BadParts.{IsBadOf}
use Rattle.command.specs.RefusedWords.{AreRefused}
use Rattle.command.specs.Views.{source_of}
use Rattle.command.specs.declared.items.Source.{Source}
use Rattle.opening.specs.Opened.{item_view}
use Rattle.opening.specs.declared.opened_items.OpenedItem.{OpenedItem}
use Rattle.search.specs.Faults.{IsObjectAt, IsRefusedIn}
use Rattle.search.specs.Loads.{LoadedPlan}
use Rattle.search.specs.declared.faults.SearchFault.{SearchFault}
use Rattle.search.specs.declared.faults.SearchFault.TheVariants as search_fault
use Rattle.search.specs.declared.loader.Reached.{Reached}
use Rattle.input_names.specs.RelocationPlaces.{IsOverlap, IsRelocationAt}
use Rattle.input_names.specs.declared.relocation_places.RelocationPlace.{RelocationPlace}
use Rattle.got_tls.specs.Views.{Got}
use Rattle.layout.specs.Kinds.{IsLawfulIfKept}
use Rattle.layout.specs.Placements.{Basis}
use Rattle.relocate.specs.References.{IsUnlawful}
use Rattle.relocate.specs.declared.faults.RelocationFault.{RelocationFault}
use Rattle.relocate.specs.declared.faults.RelocationFault.TheVariants as wrong
use Rattle.relocate.specs.Values.{pointer_in, where_in}
use Rattle.explain.specs.declared.place.EntryPlace.{EntryPlace}
use Rattle.explain.specs.declared.place.Place.{Place}
use Rattle.explain.specs.declared.place.Place.TheVariants as place
use Rattle.explain.specs.declared.place.SymbolFault.{SymbolFault}
use Rattle.explain.specs.declared.place.SymbolFault.TheVariants as symbol_fault
use Rattle.explain.specs.declared.wanted.Wanted.{Wanted}
use Rattle.explain.specs.declared.wanted.Wanted.TheVariants as wanted

-- a place is that of the loaded object that has a number, of which something stands
pub record IsLoadedAt (objects : List LoadedObject) (n : ℕ) (p : Reached) (Stands : LoadedObject → Type 0) : Type 0 where
  pub o : LoadedObject
  pub there : slice_get objects n ≡ Some o
  pub at : IsObjectAt p o
  pub stands : Stands o

-- a place is that of a section or a symbol, which has a name
pub record IsEntryOf {E : Type 0} (entries : List E) (name : ℕ → Option (List ℕ)) (p : EntryPlace E) : Type 0 where
  pub there : slice_get entries p.number ≡ Some p.entry
  pub name_is : p.name.now ≡ unwrap_or (name p.number) []

abbrev pub IsSectionOf : LoadedObject → EntryPlace SectionHeader → Type 0
IsSectionOf o p = IsEntryOf (sections o.bytes) (section_name o.bytes) p

abbrev pub IsSymbolOf : LoadedObject → EntryPlace Symbol → Type 0
IsSymbolOf o p = IsEntryOf (symbols o.bytes) (symbol_name o.bytes) p

-- what is wrong with a symbol; a strong definition is, where its name has two
abbrev pub IsSymbolWrong : List LoadedObject → SymbolOf → SymbolFault → Type 0
IsSymbolWrong objects s symbol_fault.BadCommon = ¬ IsSoundCommon s
IsSymbolWrong objects s symbol_fault.BadSymbol = ¬ IsSoundSymbol objects s
IsSymbolWrong objects s symbol_fault.Duplicate = (is_strong s ≡ true) × IsDuplicate objects s.name

-- a kept relocation is wrong
abbrev pub IsWrongRelocation : List LoadedObject → RelocationPlace → RelocationFault → Type 0
IsWrongRelocation objects p fault = (r : Relocation) × IsRelocationAt objects p r × IsUnlawful objects r fault

-- a place is that of a kept relocation, whose value where the objects are laid out from a base on doesn't fit its field; the
-- value and the address of the field
pub record IsUnfit (b : Basis) (p : RelocationPlace) (value : ℕ) (address : ℕ) : Type 0 where
  pub r : Relocation
  pub at : IsRelocationAt b.objects p r
  pub is_value : value ≡ value_of b.objects (where_in b) r
  pub is_address : address ≡ (section_address (where_in b).placed r.object r.section + r.entry.r_offset) % 2 ^ 64
  pub wrong : ¬ Fits b.objects (where_in b) r

-- what a place says where a plan loads these objects
abbrev pub basis_of : LoadedPlan → Basis
basis_of l = record { base = l.plan.base; objects = l.objects }

abbrev pub HoldsIn : LoadedPlan → Place → Type 0
HoldsIn l (place.Section f p) = IsLoadedAt l.objects p.object f (λ o. IsSectionOf o p × (¬ IsLawfulIfKept o p.number p.entry))
HoldsIn l (place.Large f p) = IsLoadedAt l.objects p.object f (λ o. IsSectionOf o p × (is_kept o p.number p.entry ≡ true) × (2 ^ 46 < l.plan.base + p.entry.sh_size))
HoldsIn l (place.Symbol f p fault) = IsLoadedAt l.objects p.object f (λ o. IsSymbolOf o p × IsSymbolWrong l.objects (symbol_of p.object o p.number p.entry) fault)
HoldsIn l (place.Relocation f p fault others) = IsLoadedAt l.objects p.object f (λ _. IsWrongRelocation l.objects p fault)
HoldsIn l (place.Overlap f p q) = IsLoadedAt l.objects p.object f (λ _. IsOverlap l.objects p q)
HoldsIn l (place.Value f p value address) = IsLoadedAt l.objects p.object f (λ _. IsUnfit (basis_of l) p value address)
HoldsIn l (place.Entry name) = (name.now ≡ l.plan.entry) × (¬ IsEntry l.objects l.plan.entry)
HoldsIn l _ = ⊥

-- lawful sections are laid out, and the GOT's slots and the thread pointer are those of this layout
pub record AreValued (l : LoadedPlan) (objects : List LoadedObject) (b : Basis) (slots : Got) (pointer : ℕ) : Type 0 where
  pub resolved : objects ≡ l.objects
  pub placed : b ≡ basis_of l
  pub kinds : AreLawfulKinds b.objects
  pub slots_are : slots.slots ≡ wanted_slots.slots b.objects
  pub slots_of : slots.objects ≡ l.objects
  pub pointer_is : pointer ≡ pointer_in (where_in b)

-- the base is one, and what is known of the objects is
abbrev pub MayBeAsked : LoadedPlan → Wanted → Type 0
MayBeAsked l wanted.LargeSections = IsBase l.plan.base
MayBeAsked l (wanted.UnfitEntries resolved placement slots pointer) = AreValued l resolved.now placement.now slots.now pointer

-- an opened item is that of a plan that has its number
abbrev pub IsOpened : List File → Plan → OpenedItem → Type 0
IsOpened files plan item = slice_get (opened files plan) item.number ≡ Some (item_view item)

-- a place is that of an item of a plan, which is opened, and something stands of it
pub record IsItemAt (files : List File) (plan : Plan) (p : Reached) (Stands : Opened → Type 0) : Type 0 where
  pub item : Opened
  pub there : slice_get (opened files plan) p.item ≡ Some item
  pub path : p.path.now ≡ item.path
  pub bytes : p.bytes.now ≡ item.bytes
  pub stands : Stands item

-- loading a plan stops at the object of a place, which has a fault: the plan's archives can be searched, and all objects before
-- it are objects with lawful groups
abbrev pub IsStoppedAt : List File → Plan → Reached → SearchFault → Type 0
IsStoppedAt files plan p f = IsRefusedIn files plan (Some (record { at = p; fault = f }))

-- an item of a plan, which names a source, has no file
pub record IsMissing (files : List File) (plan : Plan) (i : ℕ) (source : Source) : Type 0 where
  pub item : Item
  pub there : slice_get plan.items i ≡ Some item
  pub source_is : source_of source ≡ item.source
  pub missing : ¬ HasFile files plan.directories item

-- a fault of an archive is that of the member whose header is at an offset, or of the whole file, where that is 0
abbrev pub IsOffsetOf : List ℕ → ArFault → ℕ → Type 0
IsOffsetOf bytes f at = (at ≡ 0) ⊎ IsBadMember bytes f at

-- what a place says of the files of a plan
abbrev pub HoldsOf : List File → Plan → Place → Type 0
HoldsOf files plan (place.Missing i source) = IsMissing files plan i source
HoldsOf files plan (place.Archive p f) = IsItemAt files plan p (λ o. (f ≢ archive_fault.Memory) × IsBadArchive f o) × IsOffsetOf p.bytes.now f p.offset
HoldsOf files plan (place.NoIndex p) = IsItemAt files plan p IsWithoutIndex
HoldsOf files plan (place.Object p f part) = IsStoppedAt files plan p (search_fault.BadObject f) × IfSome part (IsBadOf p.bytes.now f)
HoldsOf files plan (place.Groups p f) = IsStoppedAt files plan p (search_fault.Group f)
HoldsOf files plan _ = ⊥

-- the words are refused with a fault: at the word that has the number, or without one all of them together
pub record IsWordAt (words : List (List ℕ)) (number : Option ℕ) (f : CmdFault) : Type 0 where
  pub at : AreRefused words f number
  pub refused : command_of words ≡ Err f

-- what a place says of the words; of an error that is told as a whole its cause says all
abbrev pub HoldsBy : List (List ℕ) → Place → Type 0
HoldsBy words (place.Word number f) = IsWordAt words number f
HoldsBy words (place.Refused e) = e.now ≢ error.Memory
HoldsBy words _ = ⊥

-- what places are told of: words, files and a plan, or what is loaded
pub data Ground : Type 0 where
  OfWords : List (List ℕ) → Ground
  OfPlan : List File → Plan → Ground
  OfLoaded : LoadedPlan → Ground

abbrev pub IsSo : Ground → Place → Type 0
IsSo (OfWords words) = HoldsBy words
IsSo (OfPlan files plan) = HoldsOf files plan
IsSo (OfLoaded l) = HoldsIn l

-- the places of a list are so
abbrev pub AreSo : Ground → List Place → Type 0
AreSo g places = All (IsSo g) places

-- the words are a plan, and this is what it loads from files
pub record IsLoadedBy (files : List File) (words : List (List ℕ)) (l : LoadedPlan) : Type 0 where
  pub plan : Plan
  pub words_are : command_of words ≡ Ok plan
  pub plan_is : l.plan ≡ plan
  pub loads : l.objects ≡ loaded_objects files plan

-- what a place says: of the words of a command, of the files of its plan, or of the objects that this loads from them
abbrev pub Says : List File → List (List ℕ) → Place → Type 0
Says files words p =
    HoldsBy words p
    ⊎ ((plan : Plan) × (command_of words ≡ Ok plan) × HoldsOf files plan p)
    ⊎ ((l : LoadedPlan) × IsLoadedBy files words l × HoldsIn l p)

-- the cause of the error that a place is of; a name is that of the place
abbrev pub CauseOf : List File → List (List ℕ) → Place → Type 0
CauseOf files words (place.Word number f) = Cause files words (error.Command f)
CauseOf files words (place.Missing i source) = Cause files words error.FileMissing
CauseOf files words (place.Archive p f) = Cause files words (error.BadArchive f)
CauseOf files words (place.NoIndex p) = Cause files words error.NoIndex
CauseOf files words (place.Object p f part) = Cause files words (error.BadObject f)
CauseOf files words (place.Groups p f) = Cause files words (error.BadGroup f)
CauseOf files words (place.Section o p) = Cause files words error.SectionKind
CauseOf files words (place.Large o p) = Cause files words error.TooLarge
CauseOf files words (place.Symbol o p symbol_fault.BadCommon) = Cause files words error.BadCommon
CauseOf files words (place.Symbol o p symbol_fault.BadSymbol) = Cause files words error.BadSymbol
CauseOf files words (place.Symbol o p symbol_fault.Duplicate) =
    (plan : Plan) × HasObjects files words plan × IsDuplicate (loaded_objects files plan) p.name.now
CauseOf files words (place.Relocation o p wrong.Undefined others) = AnyRelocation files words (IsUndefinedName p.symbol_name.now)
CauseOf files words (place.Relocation o p wrong.RefToDropped others) = Cause files words error.RefToDropped
CauseOf files words (place.Relocation o p wrong.RelocKind others) = Cause files words error.RelocKind
CauseOf files words (place.Relocation o p wrong.FieldOutside others) = Cause files words error.FieldOutside
CauseOf files words (place.Relocation o p wrong.TlsMismatch others) = Cause files words error.TlsMismatch
CauseOf files words (place.Relocation o p wrong.MixedSection others) = Cause files words error.MixedSection
CauseOf files words (place.Overlap o p q) = Cause files words error.OverlappingFields
CauseOf files words (place.Value o p value address) = Cause files words error.Overflow
CauseOf files words (place.Entry name) = Cause files words error.NoEntry
CauseOf files words (place.Refused e) = Cause files words e.now

-- what is known of a link whose error is judged together with that of a place; where its own words don't say the rest, the cause
abbrev pub Given : List File → List (List ℕ) → Place → Type 0
Given files words (place.Word number f) = Unit {0}
Given files words (place.Archive p f) = (plan : Plan) × HasFiles files words plan
Given files words (place.NoIndex p) = (plan : Plan) × HasFiles files words plan
Given files words (place.Object p f part) = Unit {0}
Given files words (place.Groups p f) = Unit {0}
Given files words (place.Section o p) = (plan : Plan) × HasObjects files words plan
Given files words (place.Symbol o p fault) = (plan : Plan) × HasObjects files words plan
Given files words (place.Relocation o p f others) = (plan : Plan) × IsResolved files words plan
Given files words (place.Overlap o p q) = (plan : Plan) × IsResolved files words plan
Given files words (place.Entry name) = (plan : Plan) × IsResolved files words plan
Given files words p = CauseOf files words p

-- a place is told of an error: where this one has its cause, that is known
pub record IsOf (e : LinkError) (p : Place) : Type 0 where
  pub given : (files : List File) (words : List (List ℕ)) → Cause files words e → Given files words p

-- what a place says is so, and the error that it is of has its cause
pub record Holds (files : List File) (words : List (List ℕ)) (p : Place) : Type 0 where
  pub says : Says files words p
  pub cause : CauseOf files words p
