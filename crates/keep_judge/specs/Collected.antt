-- Sections of a link with --gc-sections and without a script, object by object.
use Rattle.std.specs.Prelude.{◌≡◌, ◌⊎◌, ℕ, ◌==◌, ◌&&◌, ◌||◌, Bool, true, false, not, cond, List, Option, None, Some, All, is_some}
use Rattle.std.specs.Borrow.{Bor}
use Rattle.std.specs.BTreeMap.{BTreeMap}
use Rattle.std.specs.List.{list_any, slice_get}
use Rattle.std.specs.Str.{bytes_eq}
use Rattle.elf_model.specs.Inputs.ObjectFile.{Group, groups, section, sections}
use Rattle.elf_model.specs.Link.LinkerNames.{named_output}
use Rattle.elf_model.specs.Link.Loading.{LoadedObject}
use Rattle.elf_model.specs.Link.Pieces.{Piece, has_flag, is_kept, pieces_from}
use Rattle.elf_model.specs.Link.Relocation.{Relocation, is_local, relocations_from}
use Rattle.elf_model.specs.Link.Resolution.{SymbolOf, chosen}
use Rattle.elf_model.specs.declared.constants.TheConstants.{SHF_LINK_ORDER, SHT_NOTE}
use Rattle.elf_model.specs.declared.link_map.DropLine.{DropLine}
use Rattle.elf_model.specs.declared.records.SectionHeader.{SectionHeader}
use Rattle.judge_model.specs.Certificates.{is_left_out}
use Rattle.judge_model.specs.Kept.{is_array_type, is_bound_name, is_known_type, is_of, root_names, shf_exclude, shf_gnu_retain}
use Rattle.check_link.specs.ByName.{found_in}
use Rattle.keep_judge.specs.Kept.{is_excluded}

-- section i of an object; a null one where there is none
abbrev pub header_at : LoadedObject → ℕ → SectionHeader
header_at o i = section (sections o.bytes) i

-- whether an image has section i of object k, where COMDAT groups leave it and an image may have it
abbrev pub presence : List DropLine → ℕ → LoadedObject → ℕ → Option Bool
presence drops k o i =
    cond (is_kept o i (header_at o i) && not (has_flag shf_exclude (header_at o i))) (Some (not (is_left_out drops k i))) None

-- whether the image has section i of object k
abbrev pub is_there : List DropLine → ℕ → LoadedObject → ℕ → Bool
is_there drops k o i = is_kept o i (header_at o i) && not (is_left_out drops k i)

-- a section is a member of a group
abbrev pub is_grouped : LoadedObject → ℕ → Bool
is_grouped o i = list_any (λ g. list_any (λ m. m == i) g.members) (groups o.bytes)

-- a section stays by its name, its type or its flags alone
abbrev pub is_root_kind : Bool → Piece → Bool
is_root_kind grouped p =
    is_of root_names p
    || (is_array_type p.header.sh_type
    || (has_flag shf_gnu_retain p.header
    || ((p.header.sh_type == SHT_NOTE && not grouped)
    || not (is_known_type p.header.sh_type))))

-- A section that is in no image is left out; and one that stays isn't.
pub record IsOutRight (never root out : Bool) : Type 0 where
  pub excluded : never ≡ true → out ≡ true
  pub stays : root ≡ true → never ≡ false → out ≡ false

-- One that is linked to another is there where that one is.
abbrev pub IsLinkRight : Bool → Bool → Bool → Type 0
IsLinkRight ordered out linked = ordered ≡ true → not out ≡ linked

pub record IsPieceRight (drops : List DropLine) (grouped linked : Bool) (p : Piece) : Type 0 where
  pub out : IsOutRight (is_excluded p) (is_root_kind grouped p) (is_left_out drops p.object p.section)
  pub link : IsLinkRight (has_flag SHF_LINK_ORDER p.header) (is_left_out drops p.object p.section) linked

abbrev pub IsRightIn : List DropLine → ℕ → LoadedObject → Piece → Type 0
IsRightIn drops k o p = IsPieceRight drops (is_grouped o p.section) (is_there drops k o p.header.sh_link) p

abbrev pub ArePiecesRight : List DropLine → ℕ → LoadedObject → Type 0
ArePiecesRight drops k o = All (IsRightIn drops k o) (pieces_from k o 0 (sections o.bytes))

-- no member of a group is there, or is left out
abbrev pub HasNone : List DropLine → ℕ → LoadedObject → Bool → List ℕ → Type 0
HasNone drops k o there members = All (λ m. presence drops k o m ≡ Some there → ⊥) members

abbrev pub IsWholeIn : List DropLine → ℕ → LoadedObject → Group → Type 0
IsWholeIn drops k o g = HasNone drops k o true g.members ⊎ HasNone drops k o false g.members

abbrev pub AreWholeIn : List DropLine → ℕ → LoadedObject → Type 0
AreWholeIn drops k o = All (IsWholeIn drops k o) (groups o.bytes)

-- what holds of each object
abbrev pub OfEach : (ℕ → LoadedObject → Type 0) → List LoadedObject → Type 0
OfEach P objects = (k : ℕ) (o : LoadedObject) → slice_get objects k ≡ Some o → P k o

-- the section of the definition of a name isn't left out
abbrev pub IsDefinitionThere : List LoadedObject → List DropLine → SymbolOf → Type 0
IsDefinitionThere objects drops s =
    (o : LoadedObject) → slice_get objects s.object ≡ Some o → presence drops s.object o s.entry.st_shndx ≡ Some false → ⊥

abbrev pub IsNameThere : List LoadedObject → List DropLine → List ℕ → Type 0
IsNameThere objects drops name = (s : SymbolOf) → chosen objects name ≡ Some s → IsDefinitionThere objects drops s

-- A name that a section is lost by: it is left out, though an image may have it.
abbrev pub is_lost : List DropLine → Piece → Bool
is_lost drops p = is_left_out drops p.object p.section && not (is_excluded p)

abbrev pub is_lost_by : List DropLine → List ℕ → Piece → Bool
is_lost_by drops name p = is_lost drops p && bytes_eq p.name name

-- a table has the names of lost sections
abbrev pub has_name : BTreeMap (Bor (List ℕ)) Bool → List ℕ → Bool
has_name table name = is_some (found_in table name)

abbrev pub AreLostNames : List DropLine → List Piece → BTreeMap (Bor (List ℕ)) Bool → Type 0
AreLostNames drops ps table = (name : List ℕ) → has_name table name ≡ list_any (is_lost_by drops name) ps

-- a symbol tells where the sections of a name begin or end that are lost, and no object defines it
abbrev pub is_bound_lost : List LoadedObject → (List ℕ → Bool) → SymbolOf → Bool
is_bound_lost objects lost s =
    not (is_local s) && (is_bound_name s.name && (not (is_some (chosen objects s.name)) && lost (named_output s.name)))

-- a relocation of the image names none such
abbrev pub IsBoundKept : List LoadedObject → List DropLine → (List ℕ → Bool) → Relocation → Type 0
IsBoundKept objects drops lost r = is_left_out drops r.object r.section ≡ false → is_bound_lost objects lost r.symbol ≡ false

-- An object whose sections, groups and relocations are right; and all objects are.
pub record IsObjectRight (objects : List LoadedObject) (drops : List DropLine) (lost : List ℕ → Bool) (k : ℕ) (o : LoadedObject) : Type 0 where
  pub pieces : ArePiecesRight drops k o
  pub groups_are : AreWholeIn drops k o
  pub bounds : All (IsBoundKept objects drops lost) (relocations_from k o)

abbrev pub AreObjectsRight : List LoadedObject → List DropLine → (List ℕ → Bool) → Type 0
AreObjectsRight objects drops lost = OfEach (IsObjectRight objects drops lost) objects
