-- The groups of a file as a list, and what is asked of each.
use Rattle.std.proofs.Common.{◌≡◌, ◌≢◌, ℕ, ◌+◌, ◌<◌, ◌==◌, Bool, true, false, cond, List, [], ◌∷◌, ◌++◌, length, map, refl, ap, sym, ◌∙◌}
use Rattle.std.specs.Prelude.{filter, unwrap_or}
use Rattle.std.specs.List.{All, range_with_len}
use Rattle.std.proofs.lemmas.Bool.{eq-eqb, eqb-true, false≢true, ne_eqb}
use Rattle.std.proofs.lemmas.List.{append-nil, map-append}
use Rattle.std.proofs.lemmas.List.Elements.{All-cons, All-from_get_or, All-head, All-nil, All-tail, All-weaker}
use Rattle.elf_model.proofs.Numbering.{all_numbers, filter_range_more, number_of}
use Rattle.elf_model.specs.Inputs.ObjectFile.{AreMembers, Group, IsObject, MayBeMember, group_at, group_flags, group_members, groups, groups_of, null_section, section, sections, symbol_name}
use Rattle.elf_model.specs.declared.records.SectionHeader.{SectionHeader}

-- what holds of each element that passes a test holds of the list of what is made of these, and the other way round
each_part : {X Y : Type 0} (P : Y → Type 0) (f : X → Y) (p : X → Bool) (xs : List X) → All (λ x. p x ≡ true → P (f x)) xs → All P (map f (filter p xs))
each_part {X} {Y} P f p [] all = All-nil P
each_part {X} {Y} P f p (x ∷ xs) all =
    by (p x) refl (each_part P f p xs (All-tail (λ y. p y ≡ true → P (f y)) x xs all)) (All-head (λ y. p y ≡ true → P (f y)) x xs all)
  where
    by : (b : Bool) → p x ≡ b → All P (map f (filter p xs)) → (p x ≡ true → P (f x)) → All P (map f (cond b (x ∷ filter p xs) (filter p xs)))
    by true e rest here = All-cons P (f x) (map f (filter p xs)) (here e) rest
    by false e rest here = rest

part_each : {X Y : Type 0} (P : Y → Type 0) (f : X → Y) (p : X → Bool) (xs : List X) → All P (map f (filter p xs)) → All (λ x. p x ≡ true → P (f x)) xs
part_each {X} {Y} P f p [] all = All-nil (λ y. p y ≡ true → P (f y))
part_each {X} {Y} P f p (x ∷ xs) all = by (p x) refl all (part_each P f p xs)
  where
    by :
        (b : Bool) → p x ≡ b → All P (map f (cond b (x ∷ filter p xs) (filter p xs)))
        → (All P (map f (filter p xs)) → All (λ y. p y ≡ true → P (f y)) xs) → All (λ y. p y ≡ true → P (f y)) (x ∷ xs)
    by true e both rest = All-cons (λ y. p y ≡ true → P (f y)) x xs (λ passes. All-head P (f x) (map f (filter p xs)) both)
        (rest (All-tail P (f x) (map f (filter p xs)) both))
    by false e later rest = All-cons (λ y. p y ≡ true → P (f y)) x xs (λ passes. absurd (false≢true (sym e ∙ passes))) (rest later)

one_or_none : {X Y : Type 0} (f : X → Y) (x : X) (b : Bool) → map f (cond b (x ∷ []) []) ≡ cond b (f x ∷ []) []
one_or_none f x true = refl
one_or_none f x false = refl

-- the groups that the first n sections list
abbrev listed : List ℕ → List SectionHeader → (ℕ → List ℕ) → ℕ → List Group
listed bytes ss names n = map (group_at bytes ss names) (filter (λ k. (section ss k).sh_type == 17) (range_with_len 0 n))

-- one section more
groups_more : (bytes : List ℕ) (ss : List SectionHeader) (names : ℕ → List ℕ) (i : ℕ)
    → listed bytes ss names (i + 1) ≡ listed bytes ss names i ++ cond ((section ss i).sh_type == 17) (group_at bytes ss names i ∷ []) []
groups_more bytes ss names i =
    let is_group = λ (k : ℕ). (section ss k).sh_type == 17 in
    let at = group_at bytes ss names in
    ap (map at) (filter_range_more is_group i)
    ∙ map-append at (filter is_group (range_with_len 0 i)) (cond (is_group i) (i ∷ []) [])
    ∙ ap (λ gs. map at (filter is_group (range_with_len 0 i)) ++ gs) (one_or_none at i (is_group i))

-- a section that lists a group, and one that doesn't
pub group_pushed : (bytes : List ℕ) (ss : List SectionHeader) (names : ℕ → List ℕ) (i : ℕ) (old new : List Group) (g : Group)
    → old ≡ listed bytes ss names i → new ≡ old ++ g ∷ [] → (section ss i).sh_type ≡ 17 → g ≡ group_at bytes ss names i → new ≡ listed bytes ss names (i + 1)
group_pushed bytes ss names i old new g old_is new_is group g_is =
    new_is ∙ (λ j. old_is j ++ (g_is j ∷ []))
    ∙ ap (λ b. listed bytes ss names i ++ cond b (group_at bytes ss names i ∷ []) []) (sym (eq-eqb (section ss i).sh_type 17 group))
    ∙ sym (groups_more bytes ss names i)

pub group_skipped : (bytes : List ℕ) (ss : List SectionHeader) (names : ℕ → List ℕ) (i : ℕ) (old : List Group)
    → old ≡ listed bytes ss names i → (section ss i).sh_type ≢ 17 → old ≡ listed bytes ss names (i + 1)
group_skipped bytes ss names i old old_is other =
    old_is ∙ sym (append-nil (listed bytes ss names i))
    ∙ ap (λ b. listed bytes ss names i ++ cond b (group_at bytes ss names i ∷ []) []) (sym (ne_eqb (section ss i).sh_type 17 other))
    ∙ sym (groups_more bytes ss names i)

-- a group by its parts
pub group_by_parts : (bytes : List ℕ) (ss : List SectionHeader) (names : ℕ → List ℕ) (i : ℕ) (g : Group) → g.section ≡ i
    → g.flags ≡ group_flags bytes (section ss i) → g.signature ≡ names (section ss i).sh_info → g.members ≡ group_members bytes (section ss i)
    → g ≡ group_at bytes ss names i
group_by_parts bytes ss names i g number flags signature members =
    λ j. record { section = number j; flags = flags j; signature = signature j; members = members j }

-- the members of all groups are good where those of each GROUP section are, and the other way round
pub members_of_groups : (bytes : List ℕ) (ss : List SectionHeader) (names : ℕ → List ℕ) → All (λ s. s.sh_type ≡ 17 → AreMembers ss (group_members bytes s)) ss
    → All (λ g. AreMembers ss g.members) (groups_of bytes ss names)
members_of_groups bytes ss names good =
    each_part (λ (g : Group). AreMembers ss g.members) (group_at bytes ss names) (λ k. (section ss k).sh_type == 17) (range_with_len 0 (length ss))
    (all_numbers (λ k. ((section ss k).sh_type == 17) ≡ true → AreMembers ss (group_members bytes (section ss k))) (length ss)
    (λ i within group. good i null_section within (eqb-true (section ss i).sh_type 17 group)))

pub members_of_sections : (bytes : List ℕ) (ss : List SectionHeader) (names : ℕ → List ℕ) → All (λ g. AreMembers ss g.members) (groups_of bytes ss names)
    → All (λ s. s.sh_type ≡ 17 → AreMembers ss (group_members bytes s)) ss
members_of_sections bytes ss names good = All-from_get_or (λ s. s.sh_type ≡ 17 → AreMembers ss (group_members bytes s)) ss null_section (λ i within group.
    number_of (λ k. ((section ss k).sh_type == 17) ≡ true → AreMembers ss (group_members bytes (section ss k))) (length ss)
    (part_each (λ (g : Group). AreMembers ss g.members) (group_at bytes ss names) (λ k. (section ss k).sh_type == 17) (range_with_len 0 (length ss)) good)
    i within (eq-eqb (section ss i).sh_type 17 group))

-- the groups of an object list sections that are there
abbrev pub NamesSections : List ℕ → List Group → Type 0
NamesSections bytes gs = All (λ g. All (λ k. k < length (sections bytes)) g.members) gs

pub members_there : (bytes : List ℕ) → IsObject bytes → NamesSections bytes (groups bytes)
members_there bytes o =
    All-weaker (λ g. AreMembers (sections bytes) g.members) (λ g. All (λ k. k < length (sections bytes)) g.members)
    (λ g members. All-weaker (MayBeMember (sections bytes)) (λ k. k < length (sections bytes)) (λ k may. may.there) g.members members) (groups bytes)
    (members_of_groups bytes (sections bytes) (λ j. unwrap_or (symbol_name bytes j) []) o.groups.members)
