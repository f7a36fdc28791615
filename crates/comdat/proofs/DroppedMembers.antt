-- The members of the groups that are dropped are below a number where those of all groups are.
use Rattle.std.proofs.Common.{ℕ, ◌<◌, Bool, true, false, cond, ◌&&◌, List, [], ◌∷◌, ◌++◌}
use Rattle.std.specs.List.{All, flat_map}
use Rattle.std.proofs.lemmas.List.Elements.{All-append, All-head, All-nil, All-tail}
use Rattle.elf_model.specs.Link.Groups.{dropped_groups, is_comdat, is_seen, seen_with}
use Rattle.elf_model.specs.Inputs.ObjectFile.{Group}
use Rattle.elf_model.proofs.SharedSections.{AreBelow}

abbrev pub dropped_members : List (List ℕ) → List Group → List ℕ
dropped_members seen gs = flat_map (λ g. g.members) (dropped_groups seen gs)

-- they are members of groups
pub members_below : (n : ℕ) (seen : List (List ℕ)) (gs : List Group) → All (AreBelow n) gs → All (λ k. k < n) (dropped_members seen gs)
members_below n seen [] below = All-nil (λ k. k < n)
members_below n seen (g ∷ gs) below =
    by (is_comdat g && is_seen seen g.signature) (All-head (AreBelow n) g gs below)
    (members_below n (seen_with seen g) gs (All-tail (AreBelow n) g gs below))
  where
    by :
        (b : Bool) → AreBelow n g → All (λ k. k < n) (dropped_members (seen_with seen g) gs)
        → All (λ k. k < n) (flat_map (λ h. h.members) (cond b (g ∷ []) [] ++ dropped_groups (seen_with seen g) gs))
    by true here rest = All-append (λ k. k < n) g.members (dropped_members (seen_with seen g) gs) here rest
    by false here rest = rest
