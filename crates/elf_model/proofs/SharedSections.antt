-- Groups that share no section, among themselves and with those whose members are marked.
use Rattle.std.proofs.Common.{◌≡◌, ◌≤◌, ℕ, ◌+◌, ◌<◌, Bool, false, List, ◌∷◌, get_or, length, drop, sym, subst, ◌∙◌}
use Rattle.std.specs.Prelude.{AllPairs, nat_eq}
use Rattle.std.specs.List.{All, list_any}
use Rattle.std.proofs.lemmas.Bool.{false_from_ne_true, false≢true, or_from, or_parts}
use Rattle.std.proofs.lemmas.List.{drop_all}
use Rattle.std.proofs.lemmas.List.Elements.{All-cons, All-contains, All-drop, All-head, All-nil, All-tail, Contains-get_or}
use Rattle.std.proofs.lemmas.List.Kept.{AllPairs-cons}
use Rattle.elf_model.specs.Link.Groups.{ShareNoSection}
use Rattle.elf_model.specs.Inputs.ObjectFile.{Group}
use Rattle.elf_model.proofs.Pairs.{AllPairs-head, AllPairs-nil, AllPairs-tail}
use Rattle.elf_model.proofs.Rests.{Left, rest_at}
use Rattle.elf_model.specs.Marks.{AreUnmarked, is_marked, marked}
use Rattle.elf_model.proofs.Marks.{contained, is_marked-marked, listed}

-- members that a table of so many marks has
abbrev pub AreBelow : ℕ → Group → Type 0
AreBelow n g = All (λ k. k < n) g.members

-- no section is a member of two of the groups, and none of their members is marked
pub record IsApartFrom (marks : List Bool) (gs : List Group) : Type 0 where
  pub among : AllPairs ShareNoSection gs
  pub unmarked : All (λ g. AreUnmarked marks g.members) gs

-- what is unmarked after the members of a group were marked
still_unmarked : (marks : List Bool) (g h : Group) → AreBelow (length marks) h → AreUnmarked marks h.members → ShareNoSection g h
    → AreUnmarked (marked marks g.members) h.members
still_unmarked marks g h below unmarked apart i d within =
    let k = get_or h.members i d in
    is_marked-marked marks g.members k (below i d within)
    ∙ or_from (is_marked marks k) (list_any (nat_eq k) g.members) (unmarked i d within)
    (false_from_ne_true (list_any (nat_eq k) g.members) (λ yes. apart k (contained g.members k yes) (Contains-get_or h.members i d within)))

was_unmarked : (marks : List Bool) (g h : Group) → AreBelow (length marks) h → AreUnmarked (marked marks g.members) h.members → AreUnmarked marks h.members
was_unmarked marks g h below unmarked i d within =
    let k = get_or h.members i d in
    (or_parts (is_marked marks k) (list_any (nat_eq k) g.members) (sym (is_marked-marked marks g.members k (below i d within)) ∙ unmarked i d within)).0

share_none : (marks : List Bool) (g h : Group) → AreBelow (length marks) h → AreUnmarked (marked marks g.members) h.members → ShareNoSection g h
share_none marks g h below unmarked k in_g in_h =
    let here = All-contains (λ j. is_marked (marked marks g.members) j ≡ false) h.members k unmarked in_h in
    let within = All-contains (λ j. j < length marks) h.members k below in_h in
    let not_listed = (or_parts (is_marked marks k) (list_any (nat_eq k) g.members) (sym (is_marked-marked marks g.members k within) ∙ here)).1 in
    false≢true (sym not_listed ∙ listed g.members k in_g)

-- the first group's members are marked, and the others are left
apart_more : (marks : List Bool) (g : Group) (gs : List Group) → AreUnmarked marks g.members → All (AreBelow (length marks)) gs
    → Left (IsApartFrom marks (g ∷ gs)) (IsApartFrom (marked marks g.members) gs)
apart_more marks g gs own below = (
  λ apart. record {
    among = AllPairs-tail ShareNoSection g gs apart.among;
    unmarked = λ i d within. still_unmarked marks g (get_or gs i d) (below i d within)
        (All-tail (λ h. AreUnmarked marks h.members) g gs apart.unmarked i d within) (AllPairs-head ShareNoSection g gs apart.among i d within);
  },
  λ apart. record {
    among = AllPairs-cons ShareNoSection g gs (λ i d within. share_none marks g (get_or gs i d) (below i d within) (apart.unmarked i d within)) apart.among;
    unmarked = All-cons (λ h. AreUnmarked marks h.members) g gs own (λ i d within. was_unmarked marks g (get_or gs i d) (below i d within) (apart.unmarked i d within));
  },
)

-- the steps of the loop over the groups
pub left_more : (Q : Type 0) (marks : List Bool) (gs : List Group) (i : ℕ) (g : Group) → i < length gs → g ≡ get_or gs i g → All (AreBelow (length marks)) gs
    → AreUnmarked marks g.members → Left Q (IsApartFrom marks (drop i gs)) → Left Q (IsApartFrom (marked marks g.members) (drop (i + 1) gs))
left_more Q marks gs i g within is below own q =
    let step = apart_more marks g (drop (i + 1) gs) own (All-drop (AreBelow (length marks)) (i + 1) gs below) in
    let parts : drop i gs ≡ g ∷ drop (i + 1) gs = rest_at gs i g within ∙ (λ j. sym is j ∷ drop (i + 1) gs) in (
      λ h. step.0 (subst (IsApartFrom marks) parts (q.0 h)),
      λ r. q.1 (subst (IsApartFrom marks) (sym parts) (step.1 r)),
    )

pub left_stop : (Q : Type 0) (marks : List Bool) (gs : List Group) (i : ℕ) (g : Group) → i < length gs → g ≡ get_or gs i g
    → (AreUnmarked marks g.members → ⊥) → Left Q (IsApartFrom marks (drop i gs)) → Q → ⊥
left_stop Q marks gs i g within is never q h =
    let parts : drop i gs ≡ g ∷ drop (i + 1) gs = rest_at gs i g within ∙ (λ j. sym is j ∷ drop (i + 1) gs) in
    never (All-head (λ h. AreUnmarked marks h.members) g (drop (i + 1) gs) (subst (IsApartFrom marks) parts (q.0 h)).unmarked)

pub left_end : (Q : Type 0) (marks : List Bool) (gs : List Group) (i : ℕ) → length gs ≤ i → Left Q (IsApartFrom marks (drop i gs)) → Q
left_end Q marks gs i behind q =
    q.1 (subst (IsApartFrom marks) (sym (drop_all i gs behind)) record {
      among = AllPairs-nil ShareNoSection;
      unmarked = All-nil (λ g. AreUnmarked marks g.members);
    })

-- the same fact of a table and a list that equal others
pub unmarked_same : (marks ns : List Bool) (ks js : List ℕ) → marks ≡ ns → ks ≡ js → AreUnmarked marks ks → AreUnmarked ns js
unmarked_same marks ns ks js same_marks same_numbers unmarked = subst (λ (m : List Bool). AreUnmarked m js) same_marks (subst (AreUnmarked marks) same_numbers unmarked)
