-- What an archive says without the data of its ordinary members: its index, its names, and where its members are.
use Rattle.std.proofs.Common.{◌≡◌, ℕ, ◌+◌, ◌≤◌, ◌<◌, Bool, true, false, cond, List, [], ◌∷◌, length, map, take, refl, sym, ◌∙◌, ap, subst, arith}
use Rattle.std.specs.Prelude.{All, None, Some, filter, find, is_some, not, option_map, slice_index_or, unwrap_or, ◌==◌, ◌||◌}
use Rattle.std.specs.List.{list_any}
use Rattle.std.proofs.lemmas.List.{get_or-map, length-map, take-map}
use Rattle.std.proofs.lemmas.List.Elements.{All-cons, All-head, All-map, All-tail}
use Rattle.byteview.specs.Numbers.{part}
use Rattle.elf_model.proofs.Listing.{count-map}
use Rattle.elf_model.specs.Inputs.ArchiveFile.{HasGoodNames, HasIndexData, IsIndexData, IsIndexFirst, IsNamed, Member, StoredMember, data_of, index_entries, index_in, index_of, is_index, is_long_names, is_ordinary, is_readable, long_names, member_of, null_member, ordinary, size_at, stored_member, width_of}
use Rattle.unread_law.specs.Unread.{AgreeAt}
use Rattle.unread_law.proofs.Headers.{name_same, readable_same, size_same}

-- a member without its data, where it is an ordinary one
abbrev pub bare : StoredMember → StoredMember
bare m = record { offset = m.offset; name = m.name; bytes = cond (is_ordinary m) [] m.bytes }

not_ordinary : (m : StoredMember) → is_index m ≡ true → is_ordinary m ≡ false
not_ordinary m e = ap (λ (b : Bool). not (b || is_long_names m)) e

-- such members agree where the headers do
bare_by : (a b : List ℕ) (at : ℕ) → AgreeAt a b at → (o : Bool) → is_ordinary (stored_member a at) ≡ o
    → cond o [] (part a (at + 60) (size_at a at)) ≡ cond o [] (part b (at + 60) (size_at b at))
bare_by a b at agree true is = refl
bare_by a b at agree false is = agree.tables is ∙ ap (part b (at + 60)) (size_same a b at agree.header)

bare_same : (a b : List ℕ) (at : ℕ) → AgreeAt a b at → bare (stored_member a at) ≡ bare (stored_member b at)
bare_same a b at agree =
    let name = name_same a b at agree.header in
    let named = λ (n : List ℕ). is_ordinary (record { offset = at; name = n; bytes = [] }) in
    let content : cond (is_ordinary (stored_member a at)) [] (stored_member a at).bytes ≡ cond (is_ordinary (stored_member b at)) [] (stored_member b at).bytes =
    bare_by a b at agree (is_ordinary (stored_member a at)) refl
    ∙ ap (λ (n : List ℕ). cond (named n) [] (stored_member b at).bytes) name in
    (λ i. record { offset = at; name = name i; bytes = content i })

abbrev pub stored_at : List ℕ → List ℕ → List StoredMember
stored_at bytes offsets = map (stored_member bytes) (filter (is_readable bytes) offsets)

pub stored_same : (a b : List ℕ) → length a ≡ length b → (offsets : List ℕ) → All (AgreeAt a b) offsets
    → map bare (stored_at a offsets) ≡ map bare (stored_at b offsets)
stored_same a b long [] agree = refl
stored_same a b long (at ∷ offsets) agree =
    let here = All-head (AgreeAt a b) at offsets agree in
    let rest = stored_same a b long offsets (All-tail (AgreeAt a b) at offsets agree) in
    by here rest (is_readable b at) refl
  where
    by : AgreeAt a b at → map bare (stored_at a offsets) ≡ map bare (stored_at b offsets) → (r : Bool) → is_readable b at ≡ r
        → map bare (stored_at a (at ∷ offsets)) ≡ map bare (stored_at b (at ∷ offsets))
    by here rest true readable =
        ap (λ (c : Bool). map bare (map (stored_member a) (cond c (at ∷ filter (is_readable a) offsets) (filter (is_readable a) offsets))))
        (readable_same a b at long here.header ∙ readable)
        ∙ (λ i. bare_same a b at here i ∷ rest i)
        ∙ ap (λ (c : Bool). map bare (map (stored_member b) (cond c (at ∷ filter (is_readable b) offsets) (filter (is_readable b) offsets)))) (sym readable)
    by here rest false unreadable =
        ap (λ (c : Bool). map bare (map (stored_member a) (cond c (at ∷ filter (is_readable a) offsets) (filter (is_readable a) offsets))))
        (readable_same a b at long here.header ∙ unreadable)
        ∙ rest
        ∙ ap (λ (c : Bool). map bare (map (stored_member b) (cond c (at ∷ filter (is_readable b) offsets) (filter (is_readable b) offsets)))) (sym unreadable)

-- The index.
index_by : (m : StoredMember) (x : Bool) → is_index m ≡ x → index_of m ≡ index_of (bare m)
index_by m true is =
    let content : m.bytes ≡ (bare m).bytes = ap (λ (o : Bool). cond o [] m.bytes) (sym (not_ordinary m is)) in
    ap (λ (bytes : List ℕ). cond (is_index m) (Some (index_entries (width_of m) bytes)) None) content
index_by m false is =
    ap (λ (x : Bool). cond x (Some (index_entries (width_of m) m.bytes)) None) is
    ∙ sym (ap (λ (x : Bool). cond x (Some (index_entries (width_of m) (bare m).bytes)) None) is)

pub index_bare : (ms : List StoredMember) → index_in ms ≡ index_in (map bare ms)
index_bare [] = refl
index_bare (m ∷ ms) = index_by m (is_index m) refl

pub first_from_bare : (ms : List StoredMember) → IsIndexFirst (map bare ms) → IsIndexFirst ms
first_from_bare [] first = first
first_from_bare (m ∷ ms) first = unmap ms first
  where
    unmap : (xs : List StoredMember) → All (λ m. is_index m ≡ false) (map bare xs) → All (λ m. is_index m ≡ false) xs
    unmap [] all = all
    unmap (x ∷ xs) all =
        let P = λ (y : StoredMember). is_index y ≡ false in
        All-cons P x xs (All-head P (bare x) (map bare xs) all) (unmap xs (All-tail P (bare x) (map bare xs) all))

pub first_of_bare : (ms : List StoredMember) → IsIndexFirst ms → IsIndexFirst (map bare ms)
first_of_bare [] first = first
first_of_bare (m ∷ ms) first = All-map (λ (y : StoredMember). is_index y ≡ false) bare ms first

-- its data's form
data_by : (m : StoredMember) → is_index m ≡ true → m.bytes ≡ (bare m).bytes
data_by m is = ap (λ (o : Bool). cond o [] m.bytes) (sym (not_ordinary m is))

pub form_of_bare : (ms : List StoredMember) → HasIndexData ms → HasIndexData (map bare ms)
form_of_bare [] form = form
form_of_bare (m ∷ ms) form = λ is. subst (IsIndexData (width_of m)) (data_by m is) (form is)

pub form_from_bare : (ms : List StoredMember) → HasIndexData (map bare ms) → HasIndexData ms
form_from_bare [] form = form
form_from_bare (m ∷ ms) form = λ is. subst (IsIndexData (width_of m)) (sym (data_by m is)) (form is)

-- The names.
long_by : (m : StoredMember) → is_long_names m ≡ true → m.bytes ≡ (bare m).bytes
long_by m is = ap (λ (o : Bool). cond o [] m.bytes) (sym (by (is_index m) is))
  where
    by : (x : Bool) → is_long_names m ≡ true → not (x || is_long_names m) ≡ false
    by true is = refl
    by false is = ap not is

pub long_names_bare : (ms : List StoredMember) → long_names ms ≡ long_names (map bare ms)
long_names_bare [] = refl
long_names_bare (m ∷ ms) = by (is_long_names m) refl (long_names_bare ms)
  where
    by : (x : Bool) → is_long_names m ≡ x → long_names ms ≡ long_names (map bare ms) → long_names (m ∷ ms) ≡ long_names (map bare (m ∷ ms))
    by true is rest =
        ap (λ (c : Bool). unwrap_or (option_map (λ y. y.bytes) (cond c (Some m) (find is_long_names ms))) []) is
        ∙ long_by m is
        ∙ ap (λ (c : Bool). unwrap_or (option_map (λ y. y.bytes) (cond c (Some (bare m)) (find is_long_names (map bare ms)))) []) (sym is)
    by false is rest =
        ap (λ (c : Bool). unwrap_or (option_map (λ y. y.bytes) (cond c (Some m) (find is_long_names ms))) []) is
        ∙ rest
        ∙ ap (λ (c : Bool). unwrap_or (option_map (λ y. y.bytes) (cond c (Some (bare m)) (find is_long_names (map bare ms)))) []) (sym is)

-- the names of members that are told by their headers and the long names
IsNamedAt : List StoredMember → ℕ → Type 0
IsNamedAt ms i = IsNamed (long_names (take i ms)) (slice_index_or ms i null_member)

long_before : (ms : List StoredMember) (i : ℕ) → long_names (take i ms) ≡ long_names (take i (map bare ms))
long_before ms i = long_names_bare (take i ms) ∙ ap long_names (sym (take-map bare i ms))

member_bare : (ms : List StoredMember) (i : ℕ) → i < length ms → slice_index_or (map bare ms) i null_member ≡ bare (slice_index_or ms i null_member)
member_bare ms i within = get_or-map bare ms i null_member null_member within

pub names_of_bare : (ms : List StoredMember) → HasGoodNames ms → HasGoodNames (map bare ms)
names_of_bare ms good = record {
  one = subst (λ (n : ℕ). n ≤ 1) (sym (count-map is_long_names bare ms)) good.one;
  each = λ i within.
      let inside : i < length ms = (let same = length-map ms bare in omega (arith, same, within)) in
      subst (λ (m : StoredMember). IsNamed (long_names (take i (map bare ms))) m) (sym (member_bare ms i inside))
      (subst (λ (names : List ℕ). IsNamed names (bare (slice_index_or ms i null_member))) (long_before ms i) (good.each i inside));
}

pub names_from_bare : (ms : List StoredMember) → HasGoodNames (map bare ms) → HasGoodNames ms
names_from_bare ms good = record {
  one = subst (λ (n : ℕ). n ≤ 1) (count-map is_long_names bare ms) good.one;
  each = λ i within.
      let inside : i < length (map bare ms) = (let same = length-map ms bare in omega (arith, same, within)) in
      subst (λ (names : List ℕ). IsNamed names (bare (slice_index_or ms i null_member))) (sym (long_before ms i))
      (subst (λ (m : StoredMember). IsNamed (long_names (take i (map bare ms))) m) (member_bare ms i within) (good.each i inside));
}

-- The members' places.
abbrev pub offsets_of : List Member → List ℕ
offsets_of ms = map (λ m. m.offset) ms

pub offsets_bare : (ms : List StoredMember) → offsets_of (ordinary ms) ≡ offsets_of (ordinary (map bare ms))
offsets_bare [] = refl
offsets_bare (m ∷ ms) = by (is_ordinary m) refl (offsets_bare ms)
  where
    by : (o : Bool) → is_ordinary m ≡ o → offsets_of (ordinary ms) ≡ offsets_of (ordinary (map bare ms))
        → offsets_of (ordinary (m ∷ ms)) ≡ offsets_of (ordinary (map bare (m ∷ ms)))
    by true is rest =
        ap (λ (c : Bool). offsets_of (map member_of (cond c (m ∷ filter is_ordinary ms) (filter is_ordinary ms)))) is
        ∙ ap (λ (ks : List ℕ). m.offset ∷ ks) rest
        ∙ ap (λ (c : Bool). offsets_of (map member_of (cond c (bare m ∷ filter is_ordinary (map bare ms)) (filter is_ordinary (map bare ms))))) (sym is)
    by false is rest =
        ap (λ (c : Bool). offsets_of (map member_of (cond c (m ∷ filter is_ordinary ms) (filter is_ordinary ms)))) is
        ∙ rest
        ∙ ap (λ (c : Bool). offsets_of (map member_of (cond c (bare m ∷ filter is_ordinary (map bare ms)) (filter is_ordinary (map bare ms))))) (sym is)

-- whether a member is at an offset, by the members' places
pub there_by : (ms : List Member) (at : ℕ) → is_some (data_of ms at) ≡ list_any (λ k. k == at) (offsets_of ms)
there_by [] at = refl
there_by (m ∷ ms) at = by (m.offset == at) refl (there_by ms at)
  where
    by : (c : Bool) → (m.offset == at) ≡ c → is_some (data_of ms at) ≡ list_any (λ k. k == at) (offsets_of ms)
        → is_some (data_of (m ∷ ms) at) ≡ list_any (λ k. k == at) (offsets_of (m ∷ ms))
    by true is rest =
        ap (λ (c : Bool). is_some (option_map (λ y. y.bytes) (cond c (Some m) (find (λ y. y.offset == at) ms)))) is
        ∙ ap (λ (c : Bool). c || list_any (λ k. k == at) (offsets_of ms)) (sym is)
    by false is rest =
        ap (λ (c : Bool). is_some (option_map (λ y. y.bytes) (cond c (Some m) (find (λ y. y.offset == at) ms)))) is
        ∙ rest
        ∙ ap (λ (c : Bool). c || list_any (λ k. k == at) (offsets_of ms)) (sym is)
