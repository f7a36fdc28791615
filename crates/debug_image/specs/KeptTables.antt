-- Kept groups and what stands for dropped sections, as the code has them.
use Rattle.std.specs.Prelude.{◌≡◌, ℕ, ◌&&◌, Bool, true, cond, List, Option, None, Some, find, length, nat_eq, option_map}
use Rattle.std.specs.BTreeMap.{BTreeMap}
use Rattle.std.specs.BTreeMap as tree
use Rattle.std.specs.List.{slice_get}
use Rattle.std.specs.Option.{option_and_then, option_or}
use Rattle.std.specs.Ordering.{nat_cmp}
use Rattle.std.specs.Str.{bytes_eq}
use Rattle.indexmap.specs.IndexMap.{IndexMap, get, index_map_len}
use Rattle.elf_model.specs.Link.Loading.{LoadedObject, is_dropped}
use Rattle.elf_model.specs.declared.name.Name.{Name}
use Rattle.elf_model.specs.declared.references.SectionRef.{SectionRef}
use Rattle.debug_image.specs.KeptGroups.{ObjectGroup, has_size_and_name, kept_among, member_of, stand_in}
use Rattle.debug_image.specs.ObjectSections.{section_ref}
use Rattle.debug_image.specs.declared.kept_groups.KeptGroup.{KeptGroup}
use Rattle.debug_image.specs.declared.kept_groups.KeptGroups as code
use Rattle.debug_image.specs.declared.kept_groups.MemberKey.{MemberKey}

-- how names and keys of members are compared
abbrev pub name_eq : Name → Name → Bool
name_eq a b = bytes_eq a.0.now b.0.now

abbrev pub key_eq : MemberKey → MemberKey → Bool
key_eq a b = nat_eq a.group b.group && (nat_eq a.size b.size && bytes_eq a.name.0.now b.name.0.now)

-- a kept group of a number among some groups
abbrev pub at_number : List ObjectGroup → KeptGroup → Option ObjectGroup
at_number gs r = slice_get gs r.number

-- what is found for a key: the first member, of the group that has its number, with its size and its name
abbrev pub member_at : List ObjectGroup → MemberKey → Option SectionRef
member_at gs key = option_and_then (λ g. member_of g key.size key.name.0.now) (slice_get gs key.group)

-- a key is that of a member of a group that has a number
abbrev pub is_key_of : ℕ → LoadedObject → ℕ → MemberKey → Bool
is_key_of group o n key = nat_eq group key.group && has_size_and_name o key.size key.name.0.now n

abbrev pub member_among : ℕ → LoadedObject → List ℕ → MemberKey → Option SectionRef
member_among number o ns key = option_map (section_ref number) (find (has_size_and_name o key.size key.name.0.now) ns)

-- members are found as before, and behind that those of one more group
abbrev pub member_behind : {S : Type 0} → IndexMap MemberKey SectionRef S → ℕ → ℕ → LoadedObject → List ℕ → MemberKey → Option SectionRef
member_behind m group number o ns key = option_or (get key_eq m key) (cond (nat_eq group key.group) (member_among number o ns key) None)

-- a table has the kept groups of some groups: each signature leads to the first COMDAT group that has it, with the number of its object,
-- and each key to its member
pub record AreKept (seen : List ObjectGroup) (x : code.KeptGroups) : Type 0 where
  pub kept : List ObjectGroup
  pub count : index_map_len x.groups ≡ length kept
  pub found : (n : Name) → option_and_then (at_number kept) (get name_eq x.groups n) ≡ kept_among seen n.0.now
  pub among : (n : Name) (r : KeptGroup) → get name_eq x.groups n ≡ Some r → (g : ObjectGroup) × (slice_get kept r.number ≡ Some g) × (r.object ≡ g.object)
  pub members : (key : MemberKey) → get key_eq x.members key ≡ member_at kept key

-- what stands for a section, by the table of its object
abbrev pub StandInTable : Type 0
StandInTable = BTreeMap ℕ (Option SectionRef)

abbrev pub same_option : Option SectionRef → Option SectionRef
same_option o = o

abbrev pub stand_in_at : StandInTable → ℕ → Option SectionRef
stand_in_at t n = option_and_then same_option (tree.get nat_cmp t n)

-- what stands for a section by a kept group that was found for its group
abbrev pub kept_found : {seen : List ObjectGroup} → {x : code.KeptGroups} → AreKept seen x → Option KeptGroup → Option ObjectGroup
kept_found a found = option_and_then (at_number a.kept) found

-- a table says of each dropped section what stands for it; there is one for each object
abbrev pub IsStandIn : List LoadedObject → LoadedObject → StandInTable → Type 0
IsStandIn objects o t = (n : ℕ) → is_dropped o n ≡ true → stand_in_at t n ≡ stand_in objects o n

pub record AreStandIns (objects : List LoadedObject) (ts : List StandInTable) : Type 0 where
  pub count : length ts ≡ length objects
  pub each : (k : ℕ) (o : LoadedObject) (t : StandInTable) → slice_get objects k ≡ Some o → slice_get ts k ≡ Some t → IsStandIn objects o t
