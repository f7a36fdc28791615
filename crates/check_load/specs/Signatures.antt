-- The signatures that were seen, as a test of names, and what is dropped by them.
use Rattle.std.specs.Prelude.{ℕ, Bool, List, [], ◌∷◌, ◌++◌, ◌&&◌, ◌||◌, if◌then◌else◌}
use Rattle.std.specs.List.{flat_map}
use Rattle.std.specs.Str.{bytes_eq}
use Rattle.elf_model.specs.Link.Groups.{ascending, is_comdat}
use Rattle.elf_model.specs.Inputs.ObjectFile.{Group}

-- what is seen after a group, and after groups
abbrev pub seen_then : (List ℕ → Bool) → Group → List ℕ → Bool
seen_then seen g name = is_comdat g && bytes_eq g.signature name || seen name

abbrev pub seen_by : (List ℕ → Bool) → List Group → List ℕ → Bool
seen_by seen [] = seen
seen_by seen (g ∷ gs) = seen_by (seen_then seen g) gs

-- the COMDAT groups whose signature was seen before them
abbrev pub lost_groups : (List ℕ → Bool) → List Group → List Group
lost_groups seen [] = []
lost_groups seen (g ∷ gs) = (if is_comdat g && seen g.signature then g ∷ [] else []) ++ lost_groups (seen_then seen g) gs

abbrev pub lost_members : (List ℕ → Bool) → List Group → List ℕ
lost_members seen gs = flat_map (λ g. g.members) (lost_groups seen gs)

-- the sections that are dropped with them, ascending
abbrev pub lost_by : (List ℕ → Bool) → List Group → List ℕ
lost_by seen gs = ascending (lost_members seen gs)
