-- Which groups of sections are lawful, and which sections are dropped with their COMDAT group (System V gABI 4, "Section Groups").
use Rattle.std.specs.Prelude.{ℕ, ◌≡◌, ◌≢◌, ◌↔◌, ◌⊎◌, ◌+◌, ◌==◌, ◌&&◌, Bool, not, List, [], ◌∷◌, ◌++◌, All, Any, AllPairs, Contains, filter, fold, map, max, nat_eq, if◌then◌else◌}
use Rattle.std.specs.List.{flat_map, list_any, range_with_len}
use Rattle.std.specs.Str.{bytes_eq}
use Rattle.elf_model.specs.Inputs.ObjectFile.{Group}
use Rattle.elf_model.specs.declared.constants.TheConstants.{GRP_COMDAT}
use Rattle.elf_model.specs.declared.faults.GroupFault.{GroupFault}
use Rattle.elf_model.specs.declared.faults.GroupFault.TheVariants as fault

-- a COMDAT group is one with the flag GRP_COMDAT alone
abbrev pub is_comdat : Group → Bool
is_comdat g = g.flags == GRP_COMDAT

-- the signatures of the COMDAT groups, in the groups' order
abbrev pub signatures : List Group → List (List ℕ)
signatures gs = map (λ g. g.signature) (filter is_comdat gs)

-- a COMDAT group's signature has a name (profile)
abbrev pub HasNamedSignature : Group → Type 0
HasNamedSignature g = g.flags ≡ GRP_COMDAT → g.signature ≢ []

-- no flag but GRP_COMDAT (profile)
abbrev pub HasKnownFlags : Group → Type 0
HasKnownFlags g = (g.flags ≡ 0) ⊎ (g.flags ≡ GRP_COMDAT)

-- no section is a member of both groups
abbrev pub ShareNoSection : Group → Group → Type 0
ShareNoSection g h = (k : ℕ) → Contains g.members k → Contains h.members k → ⊥

-- the groups of an object are lawful: one field a fault
pub record AreLawfulGroups (gs : List Group) : Type 0 where
  pub named : All HasNamedSignature gs
  pub flags : All HasKnownFlags gs
  pub apart : AllPairs ShareNoSection gs

-- a fault of an object's groups
abbrev pub GroupFaultStands : List Group → GroupFault → Type 0
GroupFaultStands gs fault.Memory = Unit {0}
GroupFaultStands gs fault.NamelessSignature = ¬ All HasNamedSignature gs
GroupFaultStands gs fault.BadFlags = ¬ All HasKnownFlags gs
GroupFaultStands gs fault.TwoGroups = ¬ AllPairs ShareNoSection gs

-- a signature is among those seen; signatures are compared as names
abbrev pub is_seen : List (List ℕ) → List ℕ → Bool
is_seen seen signature = list_any (bytes_eq signature) seen

-- the signatures seen, each once, in the order in which COMDAT groups first had them: those seen before, and behind them the new ones of the groups
abbrev pub seen_with : List (List ℕ) → Group → List (List ℕ)
seen_with seen g = if is_comdat g && not (is_seen seen g.signature) then seen ++ g.signature ∷ [] else seen

abbrev pub seen_after : List (List ℕ) → List Group → List (List ℕ)
seen_after seen gs = fold seen_with seen gs

-- the groups that are dropped: the COMDAT groups whose signature was seen before them
abbrev pub dropped_groups : List (List ℕ) → List Group → List Group
dropped_groups seen [] = []
dropped_groups seen (g ∷ gs) =
    (if is_comdat g && is_seen seen g.signature then g ∷ [] else []) ++ dropped_groups (seen_with seen g) gs

-- the least number above all of a list
abbrev pub limit : List ℕ → ℕ
limit [] = 0
limit (k ∷ ks) = max (k + 1) (limit ks)

-- the numbers of a list in ascending order, each once
abbrev pub ascending : List ℕ → List ℕ
ascending ks = filter (λ k. list_any (nat_eq k) ks) (range_with_len 0 (limit ks))

-- the sections that an object loses, ascending: the members of its groups that are dropped, where these signatures were seen before the object
abbrev pub dropped : List (List ℕ) → List Group → List ℕ
dropped seen gs = ascending (flat_map (λ g. g.members) (dropped_groups seen gs))

-- the same as a relation: section k of an object with these groups is a member of a COMDAT group whose signature another COMDAT group has that stands
-- earlier, among the groups of the objects loaded before or before it in its object
abbrev pub HasSignature : List ℕ → Group → Type 0
HasSignature signature g = (g.flags ≡ GRP_COMDAT) × (g.signature ≡ signature)

pub record IsDropped (earlier gs : List Group) (k : ℕ) : Type 0 where
  pub before : List Group
  pub group : Group
  pub after : List Group
  pub here : gs ≡ before ++ group ∷ after
  pub comdat : group.flags ≡ GRP_COMDAT
  pub member : Contains group.members k
  pub again : Any (HasSignature group.signature) (earlier ++ before)

-- the numbers of a list are those of the sections that are dropped
abbrev pub AreDropped : List Group → List Group → List ℕ → Type 0
AreDropped earlier gs ks = (k : ℕ) → Contains ks k ↔ IsDropped earlier gs k
