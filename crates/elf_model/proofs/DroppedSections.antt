-- The sections that an object loses, as a relation over the groups in load order.
use Rattle.std.proofs.Common.{◌≡◌, ◌↔◌, ◌⊎◌, inl, inr, ℕ, ◌<◌, Bool, true, false, cond, not, ◌&&◌, ◌||◌, List, [], ◌∷◌, ◌++◌, refl, ap, sym, subst, ◌∙◌, arith}
use Rattle.std.specs.Cmp.{nat_eq_equiv}
use Rattle.std.specs.Prelude.{Any, Contains, nat_eq}
use Rattle.std.specs.List.{flat_map, list_any, range_with_len}
use Rattle.std.specs.Str.{bytes_eq}
use Rattle.std.proofs.Math.Bool.{or-false, or_assoc}
use Rattle.std.proofs.lemmas.Bool.{and_from, and_parts, eq-eqb, eqb-true, or_left}
use Rattle.std.proofs.lemmas.List.Elements.{Contains-append_right}
use Rattle.std.proofs.lemmas.List.Folds.{Any-from_list_any, list_any-append, list_any-from_Any}
use Rattle.std.proofs.lemmas.List.Sums.{fold-append}
use Rattle.std.proofs.lemmas.Map.Views.{Contains-from_any, list_any-from_Contains}
use Rattle.std.proofs.lemmas.Slice.Eq.{bytes_eq-Decides}
use Rattle.elf_model.specs.Link.Groups.{HasSignature, IsDropped, ascending, dropped, dropped_groups, is_comdat, is_seen, limit, seen_after, seen_with}
use Rattle.elf_model.specs.Inputs.ObjectFile.{Group}
use Rattle.elf_model.proofs.Listed.{Contains-cons_cases, Contains-filter, Contains-flat_map, Contains-from_filter, Contains-from_flat_map, Contains-here, Contains-nil}
use Rattle.elf_model.proofs.Numbering.{in_range}

-- a number stands in a list where it stands in the ascending one
below_limit : (ks : List ℕ) (k : ℕ) → Contains ks k → k < limit ks
below_limit [] k there = absurd (Contains-nil k there)
below_limit (j ∷ ks) k there = by (Contains-cons_cases j ks k there) (below_limit ks k)
  where
    by : (j ≡ k) ⊎ Contains ks k → (Contains ks k → k < limit ks) → k < limit (j ∷ ks)
    by (inl same) rest = omega (arith, same)
    by (inr later) rest = let low = rest later in omega (arith, low)

pub from_ascending : (ks : List ℕ) (k : ℕ) → Contains (ascending ks) k → Contains ks k
from_ascending ks k there =
    Contains-from_any (λ a b e. eqb-true a b e) k ks (Contains-from_filter (λ i. list_any (nat_eq i) ks) (range_with_len 0 (limit ks)) k there).1

pub in_ascending : (ks : List ℕ) (k : ℕ) → Contains ks k → Contains (ascending ks) k
in_ascending ks k there =
    Contains-filter (λ i. list_any (nat_eq i) ks) (range_with_len 0 (limit ks)) k (in_range (limit ks) k (below_limit ks k there))
    (list_any-from_Contains nat_eq_equiv k ks there)

-- a COMDAT group of a signature
abbrev has_signature : List ℕ → Group → Bool
has_signature signature g = is_comdat g && bytes_eq signature g.signature

-- what is seen after a group
seen_step : (seen : List (List ℕ)) (g : Group) (signature : List ℕ) → is_seen (seen_with seen g) signature ≡ (is_seen seen signature || has_signature signature g)
seen_step seen g signature = by (is_comdat g) (is_seen seen g.signature) refl (bytes_eq signature g.signature) refl
  where
    by :
        (c s : Bool) → is_seen seen g.signature ≡ s → (e : Bool) → bytes_eq signature g.signature ≡ e
        → is_seen (cond (c && not s) (seen ++ g.signature ∷ []) seen) signature ≡ (is_seen seen signature || (c && bytes_eq signature g.signature))
    by false s s_is e e_is = sym (or-false (is_seen seen signature))
    by true false s_is e e_is =
        list_any-append (bytes_eq signature) seen (g.signature ∷ []) ∙ ap (λ b. is_seen seen signature || b) (or-false (bytes_eq signature g.signature))
    by true true s_is true e_is =
        let same = (bytes_eq-Decides signature g.signature).0 e_is in
        let found = ap (is_seen seen) same ∙ s_is in
        found ∙ sym (or_left (is_seen seen signature) (bytes_eq signature g.signature) found)
    by true true s_is false e_is = sym (or-false (is_seen seen signature)) ∙ ap (λ b. is_seen seen signature || b) (sym e_is)

seen_by_groups : (seen : List (List ℕ)) (gs : List Group) (signature : List ℕ)
    → is_seen (seen_after seen gs) signature ≡ (is_seen seen signature || list_any (has_signature signature) gs)
seen_by_groups seen [] signature = sym (or-false (is_seen seen signature))
seen_by_groups seen (g ∷ gs) signature =
    seen_by_groups (seen_with seen g) gs signature
    ∙ ap (λ b. b || list_any (has_signature signature) gs) (seen_step seen g signature)
    ∙ or_assoc (is_seen seen signature) (has_signature signature g) (list_any (has_signature signature) gs)

-- a group that is dropped: the groups before and behind it, and that its signature was seen before it
record IsLater (seen : List (List ℕ)) (gs : List Group) (g : Group) : Type 0 where
  before : List Group
  after : List Group
  here : gs ≡ before ++ g ∷ after
  comdat : is_comdat g ≡ true
  seen_before : is_seen (seen_after seen before) g.signature ≡ true

from_dropped_groups : (seen : List (List ℕ)) (gs : List Group) (g : Group) → Contains (dropped_groups seen gs) g → IsLater seen gs g
from_dropped_groups seen [] g there = absurd (Contains-nil g there)
from_dropped_groups seen (h ∷ gs) g there =
    by (is_comdat h && is_seen seen h.signature) refl there (from_dropped_groups (seen_with seen h) gs g)
  where
    later : IsLater (seen_with seen h) gs g → IsLater seen (h ∷ gs) g
    later rest = record {
      before = h ∷ rest.before;
      after = rest.after;
      here = ap (λ xs. h ∷ xs) rest.here;
      comdat = rest.comdat;
      seen_before = rest.seen_before;
    }

    by :
        (b : Bool) → (is_comdat h && is_seen seen h.signature) ≡ b → Contains (cond b (h ∷ []) [] ++ dropped_groups (seen_with seen h) gs) g
        → (Contains (dropped_groups (seen_with seen h) gs) g → IsLater (seen_with seen h) gs g) → IsLater seen (h ∷ gs) g
    by false is c rest = later (rest c)
    by true is c rest = first (Contains-cons_cases h (dropped_groups (seen_with seen h) gs) g c)
      where
        first : (h ≡ g) ⊎ Contains (dropped_groups (seen_with seen h) gs) g → IsLater seen (h ∷ gs) g
        first (inl same) =
            let parts = and_parts (is_comdat h) (is_seen seen h.signature) is in
            record {
              before = [];
              after = gs;
              here = ap (λ x. x ∷ gs) same;
              comdat = ap is_comdat (sym same) ∙ parts.0;
              seen_before = ap (λ (x : Group). is_seen seen x.signature) (sym same) ∙ parts.1;
            }
        first (inr there) = later (rest there)

in_dropped_groups : (seen : List (List ℕ)) (before : List Group) (g : Group) (after : List Group) → is_comdat g ≡ true
    → is_seen (seen_after seen before) g.signature ≡ true → Contains (dropped_groups seen (before ++ g ∷ after)) g
in_dropped_groups seen [] g after comdat seen_before =
    subst (λ b. Contains (cond b (g ∷ []) [] ++ dropped_groups (seen_with seen g) after) g)
    (sym (and_from (is_comdat g) (is_seen seen g.signature) comdat seen_before)) (Contains-here (dropped_groups (seen_with seen g) after) g)
in_dropped_groups seen (h ∷ before) g after comdat seen_before =
    Contains-append_right (cond (is_comdat h && is_seen seen h.signature) (h ∷ []) []) (dropped_groups (seen_with seen h) (before ++ g ∷ after)) g
    (in_dropped_groups (seen_with seen h) before g after comdat seen_before)

-- a signature is seen after groups where one of them has it
seen_from : (gs : List Group) (signature : List ℕ) → Any (HasSignature signature) gs → is_seen (seen_after [] gs) signature ≡ true
seen_from gs signature any =
    seen_by_groups [] gs signature
    ∙ list_any-from_Any (has_signature signature) gs (
      any.0,
      any.1,
      any.2,
      any.3,
      and_from (is_comdat any.1) (bytes_eq signature any.1.signature) (eq-eqb any.1.flags 1 any.4.0) ((bytes_eq-Decides signature any.1.signature).1 (sym any.4.1)),
    )

from_seen : (gs : List Group) (signature : List ℕ) → is_seen (seen_after [] gs) signature ≡ true → Any (HasSignature signature) gs
from_seen gs signature seen =
    let any = Any-from_list_any (has_signature signature) gs (sym (seen_by_groups [] gs signature) ∙ seen) in
    let parts = and_parts (is_comdat any.1) (bytes_eq signature any.1.signature) any.4 in
    (any.0, any.1, any.2, any.3, (eqb-true any.1.flags 1 parts.0, sym ((bytes_eq-Decides signature any.1.signature).0 parts.1)))

-- the sections that an object loses are those that a COMDAT group of it has whose signature an earlier one has, in load order
pub dropped_iff : (earlier gs : List Group) (k : ℕ) → Contains (dropped (seen_after [] earlier) gs) k ↔ IsDropped earlier gs k
dropped_iff earlier gs k = (from_dropped, in_dropped)
  where
    seen_is : (before : List Group) → seen_after [] (earlier ++ before) ≡ seen_after (seen_after [] earlier) before
    seen_is before = fold-append seen_with [] earlier before

    from_dropped : Contains (dropped (seen_after [] earlier) gs) k → IsDropped earlier gs k
    from_dropped there =
        let part = Contains-from_flat_map (λ (g : Group). g.members) (dropped_groups (seen_after [] earlier) gs) k
        (from_ascending (flat_map (λ g. g.members) (dropped_groups (seen_after [] earlier) gs)) k there)
        in
        let later = from_dropped_groups (seen_after [] earlier) gs part.of part.there in
        record {
          before = later.before;
          group = part.of;
          after = later.after;
          here = later.here;
          comdat = eqb-true part.of.flags 1 later.comdat;
          member = part.within;
          again = from_seen (earlier ++ later.before) part.of.signature (ap (λ (seen : List (List ℕ)). is_seen seen part.of.signature) (seen_is later.before) ∙ later.seen_before);
        }

    in_dropped : IsDropped earlier gs k → Contains (dropped (seen_after [] earlier) gs) k
    in_dropped d =
        let seen_before = ap (λ (seen : List (List ℕ)). is_seen seen d.group.signature) (sym (seen_is d.before)) ∙ seen_from (earlier ++ d.before) d.group.signature d.again in
        let there = subst (λ (hs : List Group). Contains (dropped_groups (seen_after [] earlier) hs) d.group) (sym d.here)
        (in_dropped_groups (seen_after [] earlier) d.before d.group d.after (eq-eqb d.group.flags 1 d.comdat) seen_before)
        in
        in_ascending (flat_map (λ g. g.members) (dropped_groups (seen_after [] earlier) gs)) k
        (Contains-flat_map (λ (g : Group). g.members) (dropped_groups (seen_after [] earlier) gs) d.group k there d.member)
