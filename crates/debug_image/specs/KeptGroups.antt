-- The kept groups of COMDAT groups (System V gABI 4, "Section Groups"), and which section stands for one that is dropped with its group
-- (profile; linkers agree on it): the section of its name and size in the kept group.
use Rattle.std.specs.Prelude.{ℕ, ◌+◌, ◌==◌, ◌&&◌, Bool, List, [], ◌∷◌, ◌++◌, Option, find, map, nat_eq, option_map}
use Rattle.std.specs.List.{list_any}
use Rattle.std.specs.Option.{option_and_then}
use Rattle.std.specs.Str.{bytes_eq}
use Rattle.elf_model.specs.Inputs.ObjectFile.{Group, groups}
use Rattle.elf_model.specs.Link.Groups.{is_comdat}
use Rattle.elf_model.specs.Link.Loading.{LoadedObject}
use Rattle.elf_model.specs.declared.references.SectionRef.{SectionRef}
use Rattle.debug_image.specs.ObjectSections.{header_in, name_in, section_ref}

-- a group of an object, with that object and its number; the groups of one object, and of all in load order
pub record ObjectGroup : Type 0 where
  pub object : ℕ
  pub own : LoadedObject
  pub group : Group

abbrev pub group_in : ℕ → LoadedObject → Group → ObjectGroup
group_in k o g = record { object = k; own = o; group = g }

abbrev pub groups_in : ℕ → LoadedObject → List ObjectGroup
groups_in k o = map (group_in k o) (groups o.bytes)

abbrev pub groups_from : ℕ → List LoadedObject → List ObjectGroup
groups_from k [] = []
groups_from k (o ∷ os) = groups_in k o ++ groups_from (k + 1) os

-- the kept group of a signature: the first COMDAT group that has it
abbrev pub is_comdat_of : List ℕ → ObjectGroup → Bool
is_comdat_of signature g = is_comdat g.group && bytes_eq g.group.signature signature

abbrev pub kept_among : List ObjectGroup → List ℕ → Option ObjectGroup
kept_among gs signature = find (is_comdat_of signature) gs

abbrev pub kept_group : List LoadedObject → List ℕ → Option ObjectGroup
kept_group objects signature = kept_among (groups_from 0 objects) signature

-- the first member of a group that has a size and a name
abbrev pub has_size_and_name : LoadedObject → ℕ → List ℕ → ℕ → Bool
has_size_and_name o size name m = ((header_in o m).sh_size == size) && bytes_eq (name_in o m) name

abbrev pub member_of : ObjectGroup → ℕ → List ℕ → Option SectionRef
member_of g size name = option_map (section_ref g.object) (find (has_size_and_name g.own size name) g.group.members)

-- the COMDAT group of an object that lists a section
abbrev pub lists : ℕ → Group → Bool
lists n g = is_comdat g && list_any (nat_eq n) g.members

abbrev pub group_of : LoadedObject → ℕ → Option Group
group_of o n = find (lists n) (groups o.bytes)

-- what stands for a section that is dropped with its group: the member of the kept group that has its size and its name
abbrev pub member_like : LoadedObject → ℕ → ObjectGroup → Option SectionRef
member_like o n g = member_of g (header_in o n).sh_size (name_in o n)

abbrev pub stand_in_among : List ObjectGroup → LoadedObject → ℕ → Group → Option SectionRef
stand_in_among gs o n g = option_and_then (member_like o n) (kept_among gs g.signature)

abbrev pub stand_in : List LoadedObject → LoadedObject → ℕ → Option SectionRef
stand_in objects o n = option_and_then (stand_in_among (groups_from 0 objects) o n) (group_of o n)
