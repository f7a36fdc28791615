-- Pieces grouped by output section, each in its order: the same pieces, each once, and neighbours in their output
-- section side by side.
use Rattle.std.proofs.Common.{◌≡◌, Bool, true, false, not, cond, ◌⊎◌, inl, inr, List, [], ◌∷◌, get_or, refl, sym, ◌∙◌, ap, subst}
use Rattle.std.specs.Prelude.{All, AllPairs, Contains, filter}
use Rattle.std.proofs.lemmas.Bool.{false≢true, not-true, not_from_false}
use Rattle.std.proofs.lemmas.List.Elements.{All-weaker, filter_agree, filter_passes}
use Rattle.std.proofs.lemmas.List.Kept.{AllPairs-cons, AllPairs-filter}
use Rattle.elf_model.specs.Link.ArrayOrder.{in_array_order, piece_rank}
use Rattle.elf_model.specs.Own.OwnLayout.{grouped, leaders}
use Rattle.elf_model.specs.Link.Pieces.{Piece, same_output}
use Rattle.elf_model.proofs.ArrayOrder.{Contains-by_rank, Contains-from_by_rank, by_rank_moves}
use Rattle.elf_model.proofs.Listed.{All-from_contains, Contains-cons_cases, Contains-filter, Contains-flat_map, Contains-from_filter, Contains-from_flat_map, Contains-here, Contains-nil, Contains-there}
use Rattle.elf_model.proofs.Neighbours.{StandsBefore, before_flat_map}
use Rattle.elf_model.proofs.Pairs.{AllPairs-flat_map, AllPairs-nil, related}
use Rattle.elf_model.proofs.PairsPermuted.{AllPairs-permutation}
use Rattle.elf_model.proofs.SameOutput.{IsOfOutput, same_output-agree, same_output-refl, same_output-sym, same_output-trans}

-- no two leaders are of one output section
abbrev pub AreOther : Piece → Piece → Type 0
AreOther p q = same_output p q ≡ false

pub leaders_other : (ps : List Piece) → AllPairs AreOther (leaders ps)
leaders_other [] = AllPairs-nil AreOther
leaders_other (p ∷ ps) =
    let other : Piece → Bool = λ q. not (same_output p q) in
    AllPairs-cons AreOther p (filter other (leaders ps))
    (All-weaker (λ (q : Piece). other q ≡ true) (AreOther p) (λ q e. not-true (same_output p q) e) (filter other (leaders ps))
    (filter_passes other (leaders ps)))
    (AllPairs-filter AreOther other (leaders ps) (leaders_other ps))

-- the leader of a piece's output section
record HasLeader (ps : List Piece) (p : Piece) : Type 0 where
  leader : Piece
  there : Contains (leaders ps) leader
  leads : same_output leader p ≡ true

leader_of : (ps : List Piece) (p : Piece) → Contains ps p → HasLeader ps p
leader_of [] p c = absurd (Contains-nil p c)
leader_of (x ∷ xs) p c = by (Contains-cons_cases x xs p c) (leader_of xs p)
  where
    others : List Piece
    others = filter (λ q. not (same_output x q)) (leaders xs)

    first : same_output x p ≡ true → HasLeader (x ∷ xs) p
    first e = record { leader = x; there = Contains-here others x; leads = e }

    behind : (r : HasLeader xs p) → (b : Bool) → same_output x r.leader ≡ b → HasLeader (x ∷ xs) p
    behind r true e = first (same_output-trans x r.leader p e r.leads)
    behind r false e = record {
      leader = r.leader;
      there =
          Contains-there x others r.leader
          (Contains-filter (λ q. not (same_output x q)) (leaders xs) r.leader r.there (not_from_false (same_output x r.leader) e));
      leads = r.leads;
    }

    by : (x ≡ p) ⊎ Contains xs p → (Contains xs p → HasLeader xs p) → HasLeader (x ∷ xs) p
    by (inl e) rest = first (subst (λ (q : Piece). same_output x q ≡ true) e (same_output-refl x))
    by (inr there) rest = let r = rest there in behind r (same_output x r.leader) refl

abbrev group : List Piece → Piece → List Piece
group ps p = in_array_order (filter (same_output p) ps)

-- the pieces of a group are those of the list that are of the output section
to_group : (ps : List Piece) (l p : Piece) → Contains ps p → same_output l p ≡ true → Contains (group ps l) p
to_group ps l p c leads = Contains-by_rank piece_rank (filter (same_output l) ps) p (Contains-filter (same_output l) ps p c leads)

from_group : (ps : List Piece) (l p : Piece) → Contains (group ps l) p → Contains ps p × (same_output l p ≡ true)
from_group ps l p c = Contains-from_filter (same_output l) ps p (Contains-from_by_rank piece_rank (filter (same_output l) ps) p c)

-- the pieces stay the same
pub Contains-grouped : (ps : List Piece) (p : Piece) → Contains ps p → Contains (grouped ps) p
Contains-grouped ps p c =
    let l = leader_of ps p c in
    Contains-flat_map (group ps) (leaders ps) l.leader p l.there (to_group ps l.leader p c l.leads)

pub Contains-from_grouped : (ps : List Piece) (p : Piece) → Contains (grouped ps) p → Contains ps p
Contains-from_grouped ps p c =
    let part = Contains-from_flat_map (group ps) (leaders ps) p c in
    (from_group ps part.of p part.within).0

-- two sublists of a list that share no element: their elements are related as different elements of the list
pub cross_pairs :
    {X : Type 0} (R : X → X → Type 0) (all xs ys : List X) → ((x y : X) → R x y → R y x) → AllPairs R all →
    ((x : X) → Contains xs x → Contains all x) → ((y : X) → Contains ys y → Contains all y) →
    ((x : X) → Contains xs x → Contains ys x → ⊥) → All (λ x. All (R x) ys) xs
cross_pairs {X} R all xs ys turn pairs in_xs in_ys apart =
    All-from_contains (λ x. All (R x) ys) xs (λ x c. All-from_contains (R x) ys (λ y d. by x y c d (related R all x y pairs (in_xs x c) (in_ys y d))))
  where
    by : (x y : X) → Contains xs x → Contains ys y → (x ≡ y) ⊎ (R x y ⊎ R y x) → R x y
    by x y c d (inl e) = absurd (apart y (subst (Contains xs) e c) d)
    by x y c d (inr (inl r)) = r
    by x y c d (inr (inr r)) = turn y x r

-- a relation of all different pieces is one of the grouped: each stands there once
pub AllPairs-grouped : (R : Piece → Piece → Type 0) (ps : List Piece) → ((p q : Piece) → R p q → R q p) → AllPairs R ps → AllPairs R (grouped ps)
AllPairs-grouped R ps turn pairs =
    AllPairs-flat_map R (group ps) (leaders ps)
    (λ k d within.
    let own : List Piece = filter (same_output (get_or (leaders ps) k d)) ps in
    AllPairs-permutation R turn own (in_array_order own) (by_rank_moves piece_rank own) (AllPairs-filter R (same_output (get_or (leaders ps) k d)) ps pairs))
    (λ i j d order within.
    let l = get_or (leaders ps) i d in
    let m = get_or (leaders ps) j d in
    cross_pairs R ps (group ps l) (group ps m) turn pairs
    (λ x c. (from_group ps l x c).0)
    (λ y c. (from_group ps m y c).0)
    (λ x c e.
    let of_l = (from_group ps l x c).1 in
    let of_m = (from_group ps m x e).1 in
    let same = same_output-trans l x m of_l (same_output-sym m x of_m) in
    false≢true (sym (leaders_other ps i j d order within) ∙ same)))

-- neighbours among the pieces of one output section stay neighbours
pub before_grouped : (ps : List Piece) (p q : Piece) → Contains ps p → StandsBefore (in_array_order (filter (same_output p) ps)) p q → StandsBefore (grouped ps) p q
before_grouped ps p q c before =
    let l = leader_of ps p c in
    let same : group ps p ≡ group ps l.leader =
    ap in_array_order (filter_agree (same_output p) (same_output l.leader) (λ r. sym (same_output-agree l.leader p r l.leads)) ps) in
    before_flat_map (group ps) (leaders ps) l.leader p q l.there (subst (λ (g : List Piece). StandsBefore g p q) same before)

-- of a filtered list that holds whole output sections, the pieces of one are those of the list
pub group_of_filter : (t : Piece → Bool) (ps : List Piece) (p : Piece) → IsOfOutput t → t p ≡ true → filter (same_output p) (filter t ps) ≡ filter (same_output p) ps
group_of_filter t [] p of_output passes = refl
group_of_filter t (x ∷ xs) p of_output passes = by (same_output p x) (t x) refl refl (group_of_filter t xs p of_output passes)
  where
    by :
        (b c : Bool) → same_output p x ≡ b → t x ≡ c → filter (same_output p) (filter t xs) ≡ filter (same_output p) xs →
        filter (same_output p) (cond (t x) (x ∷ filter t xs) (filter t xs)) ≡ cond (same_output p x) (x ∷ filter (same_output p) xs) (filter (same_output p) xs)
    by true true s k rest = rw (k, s) (ap (λ (ps : List Piece). x ∷ ps) rest)
    by true false s k rest = absurd (false≢true (sym k ∙ (sym (of_output p x s) ∙ passes)))
    by false true s k rest = rw (k, s) rest
    by false false s k rest = rw (k, s) rest
