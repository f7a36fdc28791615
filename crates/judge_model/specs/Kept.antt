-- F2. Which sections are in the image. Without --gc-sections all that COMDAT groups leave, but for those with SHF_EXCLUDE and
-- those that a script discards. With it at least the roots; that what the image has refers to nothing that it lacks needs no
-- words here, since no field can be right that does (ld(1), --gc-sections, KEEP; System V gABI 4, "Section Groups",
-- SHF_LINK_ORDER; SHF_EXCLUDE and SHF_GNU_RETAIN are those of GNU ld).
use Rattle.std.specs.Prelude.{◌≡◌, ◌⊎◌, ℕ, ◌==◌, ◌&&◌, ◌||◌, Bool, true, false, not, List, [], ◌∷◌, None, Some, All, Contains, codes, is_some}
use Rattle.std.specs.List.{list_any, slice_get}
use Rattle.std.specs.Str.{bytes_eq}
use Rattle.elf_model.specs.Inputs.ObjectFile.{Group, groups}
use Rattle.elf_model.specs.Link.LinkerNames.{is_start_name, is_stop_name, named_output}
use Rattle.elf_model.specs.Link.Loading.{LoadedObject}
use Rattle.elf_model.specs.Link.Pieces.{Piece, has_flag, is_gathered_by, kept_sections}
use Rattle.elf_model.specs.Link.Relocation.{Relocation, is_local}
use Rattle.elf_model.specs.Link.Resolution.{SymbolOf, chosen}
use Rattle.elf_model.specs.declared.constants.TheConstants.{SHF_LINK_ORDER, SHT_FINI_ARRAY, SHT_INIT_ARRAY, SHT_NOBITS, SHT_NOTE, SHT_PREINIT_ARRAY, SHT_PROGBITS, SHT_X86_64_UNWIND}
use Rattle.judge_model.specs.Links.{ForeignLink, is_in_image, objects_of, pieces_of, relocations_of}
use Rattle.judge_model.specs.Plans.{is_discarded, is_kept_by_script}

abbrev pub shf_exclude : ℕ
shf_exclude = 0x80000000

abbrev pub shf_gnu_retain : ℕ
shf_gnu_retain = 0x200000

-- no image has it
abbrev pub is_excluded : ForeignLink → Piece → Bool
is_excluded l p = has_flag shf_exclude p.header || is_discarded l.plan p.name

-- Roots.

abbrev pub root_names : List (List ℕ)
root_names =
    codes ".init" ∷ codes ".fini" ∷ codes ".ctors" ∷ codes ".dtors" ∷ codes ".init_array" ∷ codes ".fini_array"
    ∷ codes ".preinit_array" ∷ codes ".eh_frame" ∷ []

abbrev pub is_of : List (List ℕ) → Piece → Bool
is_of names p = list_any (is_gathered_by p.name) names

abbrev pub is_array_type : ℕ → Bool
is_array_type t = t == SHT_INIT_ARRAY || (t == SHT_FINI_ARRAY || t == SHT_PREINIT_ARRAY)

-- a type that --gc-sections knows
abbrev pub is_known_type : ℕ → Bool
is_known_type t = t == SHT_PROGBITS || (t == SHT_NOBITS || (t == SHT_NOTE || (t == SHT_X86_64_UNWIND || is_array_type t)))

-- a note that is in no group
abbrev pub is_in_group : List LoadedObject → Piece → Bool
is_in_group objects p =
    list_any (λ g. list_any (λ k. k == p.section) g.members) (elim (slice_get objects p.object) as (λ _. List Group) [ None ↦ [] | Some o ↦ groups o.bytes ])

abbrev pub is_free_note : List LoadedObject → Piece → Bool
is_free_note objects p = p.header.sh_type == SHT_NOTE && not (is_in_group objects p)

-- a relocation of the image asks where the sections of a name begin or end, which the linker tells
abbrev pub is_bound_name : List ℕ → Bool
is_bound_name name = is_start_name name || is_stop_name name

abbrev pub asks_bounds_of : List LoadedObject → List ℕ → Relocation → Bool
asks_bounds_of objects output r =
    not (is_local r.symbol)
    && (is_bound_name r.symbol.name && (bytes_eq (named_output r.symbol.name) output && not (is_some (chosen objects r.symbol.name))))

abbrev pub is_asked_for : ForeignLink → Piece → Bool
is_asked_for l p = list_any (asks_bounds_of (objects_of l) p.name) (relocations_of l)

-- the section of the definition of a name
abbrev pub is_section_of : SymbolOf → Piece → Bool
is_section_of s p = s.object == p.object && s.entry.st_shndx == p.section

abbrev pub defines_root : ForeignLink → Piece → List ℕ → Bool
defines_root l p name = elim (chosen (objects_of l) name) as (λ _. Bool) [ None ↦ false | Some s ↦ is_section_of s p ]

abbrev pub root_symbols : ForeignLink → List (List ℕ)
root_symbols l = l.plan.plan.entry ∷ l.plan.plan.undefined

abbrev pub is_root : ForeignLink → Piece → Bool
is_root l p =
    is_of root_names p
    || (is_array_type p.header.sh_type
    || (has_flag shf_gnu_retain p.header
    || (is_free_note (objects_of l) p
    || (not (is_known_type p.header.sh_type)
    || (is_kept_by_script l.plan p.name
    || (list_any (defines_root l p) (root_symbols l)
    || is_asked_for l p))))))

-- All or none of the sections of a group are in the image, but for those that no image has.
abbrev pub AreMembers : ForeignLink → ℕ → Group → Bool → Type 0
AreMembers l object g there =
    All (λ p. p.object ≡ object → Contains g.members p.section → is_excluded l p ≡ false → is_in_image l p ≡ there) (kept_sections (objects_of l))

abbrev pub IsWhole : ForeignLink → ℕ → Group → Type 0
IsWhole l object g = AreMembers l object g true ⊎ AreMembers l object g false

abbrev pub AreWhole : ForeignLink → Type 0
AreWhole l = (k : ℕ) (o : LoadedObject) → slice_get (objects_of l) k ≡ Some o → All (IsWhole l k) (groups o.bytes)

-- A section with SHF_LINK_ORDER is there exactly where the one is to which it is linked.
abbrev pub is_linked_there : ForeignLink → Piece → Bool
is_linked_there l p = list_any (λ q. q.object == p.object && q.section == p.header.sh_link) (pieces_of l)

abbrev pub FollowsLink : ForeignLink → Piece → Type 0
FollowsLink l p = has_flag SHF_LINK_ORDER p.header ≡ true → is_in_image l p ≡ is_linked_there l p

pub record IsCollected (l : ForeignLink) : Type 0 where
  pub roots : All (λ p. is_root l p ≡ true → is_excluded l p ≡ false → is_in_image l p ≡ true) (kept_sections (objects_of l))
  pub groups : AreWhole l
  pub links : All (FollowsLink l) (kept_sections (objects_of l))

pub record IsKept (l : ForeignLink) : Type 0 where
  pub excluded : All (λ p. is_excluded l p ≡ true → is_in_image l p ≡ false) (kept_sections (objects_of l))
  pub all : l.plan.collects ≡ false → All (λ p. is_excluded l p ≡ false → is_in_image l p ≡ true) (kept_sections (objects_of l))
  pub collected : l.plan.collects ≡ true → IsCollected l
