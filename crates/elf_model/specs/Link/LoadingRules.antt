-- Loading as rules, without a bound on turns and rounds: which list of objects a turn, a round, the rounds of a
-- group and a command lead to (ld(1)). The rules leave no choice.
use Rattle.std.specs.Prelude.{◌≡◌, ◌≢◌, ℕ, zero, suc, Bool, true, false, List, [], ◌∷◌, None, Some}
use Rattle.elf_model.specs.Inputs.ArchiveFile.{IndexEntry}
use Rattle.elf_model.specs.Inputs.Command.{Plan}
use Rattle.elf_model.specs.Inputs.Files.{File}
use Rattle.elf_model.specs.Link.Loading.{Group, LoadedObject, Single, Step, loaded_objects, next, steps, turn_of_whole, with_member, with_object}
use Rattle.elf_model.specs.Inputs.Opening.{Opened, opened}

-- so many members are taken, each the one that is next, and none is next then
abbrev pub SearchedBy : ℕ → Plan → Opened → List LoadedObject → List LoadedObject → Type 0
SearchedBy zero plan o from to = (next plan from o ≡ None) × (to ≡ from)
SearchedBy (suc n) plan o from to = (e : IndexEntry) × (next plan from o ≡ Some e) × SearchedBy n plan o (with_member from o e) to

-- a turn of an archive, whole or not
abbrev pub TurnIf : Bool → Plan → Opened → List LoadedObject → List LoadedObject → Type 0
TurnIf true plan o from to = to ≡ turn_of_whole o from
TurnIf false plan o from to = (n : ℕ) × SearchedBy n plan o from to

abbrev pub Turn : Plan → Opened → List LoadedObject → List LoadedObject → Type 0
Turn plan o from to = TurnIf o.whole plan o from to

-- a turn of each archive, in order
abbrev pub Round : Plan → List Opened → List LoadedObject → List LoadedObject → Type 0
Round plan [] from to = to ≡ from
Round plan (o ∷ os) from to = (mid : List LoadedObject) × Turn plan o from mid × Round plan os mid to

-- so many rounds that take something, and one that takes nothing
abbrev pub RoundsBy : ℕ → Plan → List Opened → List LoadedObject → List LoadedObject → Type 0
RoundsBy zero plan os from to = Round plan os from from × (to ≡ from)
RoundsBy (suc n) plan os from to = (mid : List LoadedObject) × Round plan os from mid × (mid ≢ from) × RoundsBy n plan os mid to

abbrev pub Rounds : Plan → List Opened → List LoadedObject → List LoadedObject → Type 0
Rounds plan os from to = (n : ℕ) × RoundsBy n plan os from to

-- an object is loaded where it stands, an archive has one turn, and a group its rounds
abbrev pub LoadsSingle : Bool → Plan → Opened → List LoadedObject → List LoadedObject → Type 0
LoadsSingle true plan o from to = Turn plan o from to
LoadsSingle false plan o from to = to ≡ with_object from o 0 o.bytes

abbrev pub LoadsStep : Plan → Step → List LoadedObject → List LoadedObject → Type 0
LoadsStep plan (Single o) from to = LoadsSingle o.archive plan o from to
LoadsStep plan (Group g os) from to = Rounds plan os from to

abbrev pub LoadsSteps : Plan → List Step → List LoadedObject → List LoadedObject → Type 0
LoadsSteps plan [] from to = to ≡ from
LoadsSteps plan (s ∷ ss) from to = (mid : List LoadedObject) × LoadsStep plan s from mid × LoadsSteps plan ss mid to

abbrev pub Loads : List File → Plan → List LoadedObject → Type 0
Loads files plan to = LoadsSteps plan (steps (opened files plan)) [] to

-- the loaded objects are those to which the rules lead, and the rules lead to no others
pub record FollowsRules (files : List File) (plan : Plan) : Type 0 where
  pub loads : Loads files plan (loaded_objects files plan)
  pub only : (other : List LoadedObject) → Loads files plan other → other ≡ loaded_objects files plan
