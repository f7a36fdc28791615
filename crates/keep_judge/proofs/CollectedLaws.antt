-- A link with --gc-sections and without a script has the sections that it is to have exactly where each of its objects is right, and the
-- sections that define its root symbols aren't left out.
use Rattle.std.proofs.Common.{◌≡◌, ◌∙◌, ◌⊎◌, inl, inr, ℕ, ◌<◌, ◌≤◌, ◌&&◌, ◌||◌, Bool, true, false, not, cond, List, [], ◌∷◌, Option, None, Some, ap, get_or, length, refl, subst, sym}
use Rattle.std.specs.Prelude.{◌==◌, All, Contains, is_some, unwrap_or}
use Rattle.std.specs.List.{list_any, slice_get}
use Rattle.std.specs.Option.{option_map_or}
use Rattle.std.specs.Str.{bytes_eq}
use Rattle.std.proofs.lemmas.Bool.{and_from, and_parts, cases_Bool, false_from_ne_true, false≢true, not-false, not-true, or_cases}
use Rattle.std.proofs.lemmas.Bool.Decides.{Decides-eqb}
use Rattle.std.proofs.lemmas.List.Elements.{All-contains}
use Rattle.std.proofs.lemmas.List.Folds.{list_any-from_Any}
use Rattle.std.proofs.lemmas.Option.{get_or_from_slice_get, none-some, same_Some, slice_get_cases, unwrap_or-slice_get}
use Rattle.std.proofs.lemmas.Slice.Eq.{bytes_eq-Decides}
use Rattle.elf_model.proofs.Finding.{Any-from_contains}
use Rattle.elf_model.proofs.Listed.{All-from_contains, Contains-filter, Contains-from_filter, Contains-here, Contains-there}
use Rattle.elf_model.specs.Inputs.ObjectFile.{Group, groups, null_section, sections}
use Rattle.elf_model.specs.Link.LinkerNames.{named_output}
use Rattle.elf_model.specs.Link.Loading.{LoadedObject}
use Rattle.elf_model.specs.Link.Pieces.{Piece, has_flag, is_kept, kept_sections, piece_of, pieces_from}
use Rattle.elf_model.specs.Link.Relocation.{Relocation, is_local, relocations, relocations_from}
use Rattle.elf_model.specs.Link.Resolution.{SymbolOf, chosen}
use Rattle.elf_model.specs.declared.constants.TheConstants.{SHT_NOTE}
use Rattle.elf_model.specs.declared.link_map.DropLine.{DropLine}
use Rattle.elf_model.specs.declared.records.SectionHeader.{SectionHeader}
use Rattle.judge_model.specs.Certificates.{is_left_out}
use Rattle.judge_model.specs.Kept as kept
use Rattle.judge_model.specs.Kept.{AreMembers, FollowsLink, IsKept, IsWhole, asks_bounds_of, defines_root, is_array_type, is_asked_for, is_bound_name, is_free_note, is_in_group, is_known_type, is_linked_there, is_of, is_root, is_section_of, root_names, root_symbols, shf_exclude, shf_gnu_retain}
use Rattle.judge_model.specs.Links.{ForeignLink, is_in_image, is_in_image_too, objects_of, relocations_of}
use Rattle.judge_model.specs.Links as links
use Rattle.judge_model.specs.Plans.{Script, is_match}
use Rattle.keep_judge.specs.Collected.{AreObjectsRight, HasNone, IsBoundKept, IsNameThere, IsRightIn, IsWholeIn, header_at, is_bound_lost, is_grouped, is_lost, is_lost_by, is_root_kind, is_there, presence}
use Rattle.keep_judge.specs.Kept.{is_excluded}
use Rattle.keep_judge.proofs.Numbered.{IsPieceOf, OfObject, piece_among, piece_is, piece_listed, piece_object, relocation_among, relocation_object}

-- an element that passes a test
pub record Passes {X : Type 0} (p : X → Bool) (xs : List X) : Type 0 where
  pub x : X
  pub among : Contains xs x
  pub is : p x ≡ true

pub one_passes : {X : Type 0} (p : X → Bool) (xs : List X) → list_any p xs ≡ true → Passes p xs
one_passes p [] e = absurd (false≢true e)
one_passes p (x ∷ xs) e = by (one_passes p xs) (or_cases (p x) (list_any p xs) e)
  where
    by : (list_any p xs ≡ true → Passes p xs) → (p x ≡ true) ⊎ (list_any p xs ≡ true) → Passes p (x ∷ xs)
    by rest (inl here) = record { x = x; among = Contains-here xs x; is = here }
    by rest (inr later) = let w = rest later in record { x = w.x; among = Contains-there x xs w.x w.among; is = w.is }

pub passes : {X : Type 0} (p : X → Bool) (xs : List X) (x : X) → Contains xs x → p x ≡ true → list_any p xs ≡ true
passes p xs x among is = list_any-from_Any p xs (Any-from_contains (λ y. p y ≡ true) xs x among is)

or_left : (a b : Bool) → a ≡ true → (a || b) ≡ true
or_left a b e = ap (λ (x : Bool). x || b) e

or_right : (a b : Bool) → b ≡ true → (a || b) ≡ true
or_right true b e = refl
or_right false b e = e

or_false : (a : Bool) → (a || false) ≡ a
or_false true = refl
or_false false = refl

module _ (l : ForeignLink) (bare : l.plan.script ≡ None) where
  abbrev os : List LoadedObject
  os = objects_of l

  abbrev drops : List DropLine
  drops = l.certificate.drops

  abbrev out : Piece → Bool
  out p = is_left_out drops p.object p.section

  excluded_same : (p : Piece) → kept.is_excluded l p ≡ is_excluded p
  excluded_same p = ap (λ (s : Option Script). is_excluded p || option_map_or (λ t. list_any (λ n. is_match n p.name) t.discards) s false) bare ∙ or_false (is_excluded p)

  -- Why a section is a root.
  abbrev others : Piece → Bool
  others p = list_any (defines_root l p) (root_symbols l) || is_asked_for l p

  -- the test of the link, with what the script keeps in front
  abbrev root_with : Bool → Piece → Bool
  root_with script p =
      is_of root_names p
      || (is_array_type p.header.sh_type
      || (has_flag shf_gnu_retain p.header
      || (is_free_note os p
      || (not (is_known_type p.header.sh_type)
      || (script || others p)))))

  root_same : (p : Piece) → is_root l p ≡ root_with false p
  root_same p = ap (λ (s : Option Script). root_with (option_map_or (λ t. list_any (λ n. is_match n p.name) t.keeps) s false) p) bare

  module _ (k : ℕ) (o : LoadedObject) (at : slice_get os k ≡ Some o) where
    grouped_same : (p : Piece) → p.object ≡ k → is_in_group os p ≡ is_grouped o p.section
    grouped_same p e =
        ap
        (λ (x : Option LoadedObject).
        list_any (λ (g : Group). list_any (λ (m : ℕ). m == p.section) g.members) (elim x as (λ _. List Group) [ None ↦ [] | Some y ↦ groups y.bytes ]))
        (ap (slice_get os) e ∙ at)

    -- a root is one by its kind, by its symbols, or by what is asked
    root_cases : (p : Piece) → p.object ≡ k → is_root l p ≡ true → (is_root_kind (is_grouped o p.section) p ≡ true) ⊎ (others p ≡ true)
    root_cases p e root =
        parts (is_of root_names p) (is_array_type p.header.sh_type) (has_flag shf_gnu_retain p.header) (p.header.sh_type == SHT_NOTE && not (is_grouped o p.section))
        (not (is_known_type p.header.sh_type)) (others p)
        (ap
        (λ (b : Bool).
        is_of root_names p
        || (is_array_type p.header.sh_type
        || (has_flag shf_gnu_retain p.header
        || ((p.header.sh_type == SHT_NOTE && not b)
        || (not (is_known_type p.header.sh_type)
        || others p)))))
        (sym (grouped_same p e))
        ∙ (sym (root_same p) ∙ root))
      where
        parts : (a b c d f g : Bool) → (a || (b || (c || (d || (f || g))))) ≡ true → ((a || (b || (c || (d || f)))) ≡ true) ⊎ (g ≡ true)
        parts true b c d f g e = inl refl
        parts false true c d f g e = inl refl
        parts false false true d f g e = inl refl
        parts false false false true f g e = inl refl
        parts false false false false true g e = inl refl
        parts false false false false false g e = inr e

    root_by_kind : (p : Piece) → p.object ≡ k → is_root_kind (is_grouped o p.section) p ≡ true → is_root l p ≡ true
    root_by_kind p e kind =
        root_same p
        ∙ (ap
        (λ (b : Bool).
        is_of root_names p
        || (is_array_type p.header.sh_type
        || (has_flag shf_gnu_retain p.header
        || ((p.header.sh_type == SHT_NOTE && not b)
        || (not (is_known_type p.header.sh_type)
        || others p)))))
        (grouped_same p e)
        ∙ parts (is_of root_names p) (is_array_type p.header.sh_type) (has_flag shf_gnu_retain p.header)
        (p.header.sh_type == SHT_NOTE && not (is_grouped o p.section)) (not (is_known_type p.header.sh_type)) (others p) kind)
      where
        parts : (a b c d f g : Bool) → (a || (b || (c || (d || f)))) ≡ true → (a || (b || (c || (d || (f || g))))) ≡ true
        parts true b c d f g e = refl
        parts false true c d f g e = refl
        parts false false true d f g e = refl
        parts false false false true f g e = refl
        parts false false false false true g e = refl
        parts false false false false false g e = absurd (false≢true e)

  root_by_others : (p : Piece) → others p ≡ true → is_root l p ≡ true
  root_by_others p e =
      root_same p
      ∙ or_right (is_of root_names p) _
      (or_right (is_array_type p.header.sh_type) _
      (or_right (has_flag shf_gnu_retain p.header) _
      (or_right (is_free_note os p) _
      (or_right (not (is_known_type p.header.sh_type)) _ e))))

  -- What an image has of a section, by its header.
  header_is : (o : LoadedObject) (i : ℕ) (h : SectionHeader) → slice_get (sections o.bytes) i ≡ Some h → header_at o i ≡ h
  header_is o i h there = get_or_from_slice_get (sections o.bytes) i h null_section there

  section_there : (o : LoadedObject) (i : ℕ) → is_kept o i (header_at o i) ≡ true → slice_get (sections o.bytes) i ≡ Some (header_at o i)
  section_there o i kept_ = by (slice_get_cases (sections o.bytes) i).1
    where
      past : header_at o i ≡ null_section → ⊥
      past null = false≢true (sym (ap (is_kept o i) null) ∙ kept_)

      by :
          ((x : SectionHeader) × (i < length (sections o.bytes)) × (slice_get (sections o.bytes) i ≡ Some x) × (get_or (sections o.bytes) i x ≡ x))
          ⊎ ((length (sections o.bytes) ≤ i) × (slice_get (sections o.bytes) i ≡ None)) →
          slice_get (sections o.bytes) i ≡ Some (header_at o i)
      by (inl (x, low, there, same)) = there ∙ ap (λ (h : SectionHeader). Some h) (sym (header_is o i x there))
      by (inr (behind, none)) = absurd
          (past
          (sym (unwrap_or-slice_get (sections o.bytes) i null_section)
          ∙ ap (λ (x : Option SectionHeader). unwrap_or x null_section) none))

  pub record IsPresent (k : ℕ) (o : LoadedObject) (i : ℕ) (b : Bool) : Type 0 where
    pub kept_is : is_kept o i (header_at o i) ≡ true
    pub plain : has_flag shf_exclude (header_at o i) ≡ false
    pub there : not (is_left_out drops k i) ≡ b

  present : (k : ℕ) (o : LoadedObject) (i : ℕ) (b : Bool) → presence drops k o i ≡ Some b → IsPresent k o i b
  present k o i b e = by (is_kept o i (header_at o i)) (has_flag shf_exclude (header_at o i)) refl refl e
    where
      by :
          (x y : Bool) → is_kept o i (header_at o i) ≡ x → has_flag shf_exclude (header_at o i) ≡ y →
          cond (x && not y) (Some (not (is_left_out drops k i))) None ≡ Some b → IsPresent k o i b
      by true false x y e_ = record { kept_is = x; plain = y; there = same_Some _ b e_ }
      by true true x y e_ = absurd (none-some b e_)
      by false y x z e_ = absurd (none-some b e_)

  presence_is :
      (k : ℕ) (o : LoadedObject) (i : ℕ) → is_kept o i (header_at o i) ≡ true → has_flag shf_exclude (header_at o i) ≡ false →
      presence drops k o i ≡ Some (not (is_left_out drops k i))
  presence_is k o i kept_ plain =
      ap (λ (b : Bool). cond b (Some (not (is_left_out drops k i))) None)
      (and_from (is_kept o i (header_at o i)) (not (has_flag shf_exclude (header_at o i))) kept_ (ap not plain))

  -- that of a kept section which an image may have
  piece_presence :
      (k : ℕ) (o : LoadedObject) (p : Piece) → IsPieceOf k o p → kept.is_excluded l p ≡ false →
      presence drops k o p.section ≡ Some (not (is_left_out drops k p.section))
  piece_presence k o p is keep =
      let h = header_is o p.section p.header is.there in
      presence_is k o p.section (ap (is_kept o p.section) h ∙ is.kept) (ap (has_flag shf_exclude) h ∙ (sym (excluded_same p) ∙ keep))

  not_out : (p : Piece) (k : ℕ) → p.object ≡ k → (is_left_out drops k p.section ≡ true → ⊥) → is_in_image l p ≡ true
  not_out p k e never = ap not (ap (λ (n : ℕ). is_left_out drops n p.section) e ∙ false_from_ne_true (is_left_out drops k p.section) never)

  -- Where a section is linked to another.
  module _ (k : ℕ) (o : LoadedObject) (at : slice_get os k ≡ Some o) where
    abbrev is_linked : Piece → Piece → Bool
    is_linked p q = q.object == p.object && q.section == p.header.sh_link

    linked : (p : Piece) → p.object ≡ k → is_there drops k o p.header.sh_link ≡ true → is_linked_there l p ≡ true
    linked p e there =
        let i = p.header.sh_link in
        let both = and_parts (is_kept o i (header_at o i)) (not (is_left_out drops k i)) there in
        let h = header_at o i in
        let q = piece_of k o.bytes i h in
        passes (is_linked p) (links.pieces_of l) q
        (Contains-filter (is_in_image l) (kept_sections os) q (piece_among os k o at q (piece_listed os k o at i h (section_there o i both.0) both.0)) both.1)
        (and_from (k == p.object) (i == i) ((Decides-eqb k p.object).1 (sym e)) ((Decides-eqb i i).1 refl))

    linked_only : (p : Piece) → p.object ≡ k → is_linked_there l p ≡ true → is_there drops k o p.header.sh_link ≡ true
    linked_only p e there =
        let w = one_passes (is_linked p) (links.pieces_of l) there in
        let q = w.x in
        let keys = and_parts (q.object == p.object) (q.section == p.header.sh_link) w.is in
        let object = (Decides-eqb q.object p.object).0 keys.0 in
        let section = (Decides-eqb q.section p.header.sh_link).0 keys.1 in
        let among = Contains-from_filter (is_in_image l) (kept_sections os) q w.among in
        let of = piece_object os q among.0 in
        let is = of.is.1 in
        let same : of.k ≡ k = sym is.object ∙ (object ∙ e) in
        let one : of.o ≡ o = same_Some of.o o (sym of.there ∙ (ap (slice_get os) same ∙ at)) in
        let h = header_is of.o q.section q.header is.there in
        let kept_ : is_kept of.o q.section (header_at of.o q.section) ≡ true = ap (is_kept of.o q.section) h ∙ is.kept in
        and_from (is_kept o p.header.sh_link (header_at o p.header.sh_link)) (not (is_left_out drops k p.header.sh_link))
        (subst (λ (x : LoadedObject). is_kept x p.header.sh_link (header_at x p.header.sh_link) ≡ true) one
        (subst (λ (j : ℕ). is_kept of.o j (header_at of.o j) ≡ true) section kept_))
        (subst (λ (j : ℕ). not (is_left_out drops k j) ≡ true) section (subst (λ (n : ℕ). not (is_left_out drops n q.section) ≡ true) (object ∙ e) among.1))

    linked_same : (p : Piece) → p.object ≡ k → is_linked_there l p ≡ is_there drops k o p.header.sh_link
    linked_same p e = by (cases_Bool (is_there drops k o p.header.sh_link))
      where
        by :
            (is_there drops k o p.header.sh_link ≡ true) ⊎ (is_there drops k o p.header.sh_link ≡ false) →
            is_linked_there l p ≡ is_there drops k o p.header.sh_link
        by (inl there) = linked p e there ∙ sym there
        by (inr lacks) = false_from_ne_true (is_linked_there l p) (λ there. false≢true (sym lacks ∙ linked_only p e there)) ∙ sym lacks

  -- one object of a number
  one_object : (k n : ℕ) (o x : LoadedObject) → n ≡ k → slice_get os k ≡ Some o → slice_get os n ≡ Some x → x ≡ o
  one_object k n o x same at there = same_Some x o (sym there ∙ (ap (slice_get os) same ∙ at))

  -- Groups.
  differs : (a b : Bool) → (a ≡ b → ⊥) → a ≡ not b
  differs true true other = absurd (other refl)
  differs true false other = refl
  differs false true other = refl
  differs false false other = absurd (other refl)

  module _ (k : ℕ) (o : LoadedObject) (at : slice_get os k ≡ Some o) (g : Group) where
    abbrev Member : Bool → Piece → Type 0
    Member there p = p.object ≡ k → Contains g.members p.section → kept.is_excluded l p ≡ false → is_in_image l p ≡ there

    members_from : (there : Bool) → HasNone drops k o there g.members → AreMembers l k g (not there)
    members_from there none =
        All-from_contains (Member (not there)) (kept_sections os)
        (λ p c object member keep.
        let of = piece_object os p c in
        let is = of.is.1 in
        let same : of.k ≡ k = sym is.object ∙ object in
        let one = one_object k of.k o of.o same at of.there in
        let here : IsPieceOf k o p = subst (λ (x : LoadedObject). IsPieceOf k x p) one (subst (λ (n : ℕ). IsPieceOf n of.o p) same is) in
        let never = All-contains (λ (m : ℕ). presence drops k o m ≡ Some there → ⊥) g.members p.section none member in
        ap (λ (n : ℕ). not (is_left_out drops n p.section)) object
        ∙ differs (not (is_left_out drops k p.section)) there
        (λ e. never (piece_presence k o p here keep ∙ ap (λ (b : Bool). Some b) e)))

    none_from : (there : Bool) → AreMembers l k g (not there) → HasNone drops k o there g.members
    none_from there are =
        All-from_contains (λ (m : ℕ). presence drops k o m ≡ Some there → ⊥) g.members
        (λ m member e.
        let is = present k o m there e in
        let h = header_at o m in
        let p = piece_of k o.bytes m h in
        let c = piece_among os k o at p (piece_listed os k o at m h (section_there o m is.kept_is) is.kept_is) in
        let in_ = All-contains (Member (not there)) (kept_sections os) p are c refl member (excluded_same p ∙ is.plain) in
        same_not there (sym is.there ∙ in_))
      where
        same_not : (b : Bool) → b ≡ not b → ⊥
        same_not true e = false≢true (sym e)
        same_not false e = false≢true e

    whole_from : IsWholeIn drops k o g → IsWhole l k g
    whole_from (inl none) = inr (members_from true none)
    whole_from (inr none) = inl (members_from false none)

    from_whole : IsWhole l k g → IsWholeIn drops k o g
    from_whole (inl all) = inr (none_from false all)
    from_whole (inr none) = inl (none_from true none)

  module _ (lost : List ℕ → Bool) (lost_are : (name : List ℕ) → lost name ≡ list_any (is_lost_by drops name) (kept_sections os)) where
    -- What is asked for.
    lost_by : (p : Piece) (name : List ℕ) → Contains (kept_sections os) p → is_lost drops p ≡ true → bytes_eq name p.name ≡ true → lost name ≡ true
    lost_by p name c gone same =
        lost_are name
        ∙ passes (is_lost_by drops name) (kept_sections os) p c
        (and_from (is_lost drops p) (bytes_eq p.name name) gone
        ((bytes_eq-Decides p.name name).1 (sym ((bytes_eq-Decides name p.name).0 same))))

    bound_lost :
        (p : Piece) (r : Relocation) → Contains (kept_sections os) p → is_lost drops p ≡ true → asks_bounds_of os p.name r ≡ true →
        is_bound_lost os lost r.symbol ≡ true
    bound_lost p r c gone asks =
        let name = r.symbol.name in
        let first = and_parts (not (is_local r.symbol)) (is_bound_name name && (bytes_eq (named_output name) p.name && not (is_some (chosen os name)))) asks in
        let second = and_parts (is_bound_name name) (bytes_eq (named_output name) p.name && not (is_some (chosen os name))) first.1 in
        let third = and_parts (bytes_eq (named_output name) p.name) (not (is_some (chosen os name))) second.1 in
        and_from (not (is_local r.symbol)) (is_bound_name name && (not (is_some (chosen os name)) && lost (named_output name))) first.0
        (and_from (is_bound_name name) (not (is_some (chosen os name)) && lost (named_output name)) second.0
        (and_from (not (is_some (chosen os name))) (lost (named_output name)) third.1 (lost_by p (named_output name) c gone third.0)))

    -- a section that is lost by what a relocation names
    pub record LostBy (r : Relocation) : Type 0 where
      pub p : Piece
      pub among : Contains (kept_sections os) p
      pub gone : is_lost drops p ≡ true
      pub asks : asks_bounds_of os p.name r ≡ true

    lost_piece : (r : Relocation) → is_bound_lost os lost r.symbol ≡ true → LostBy r
    lost_piece r e =
        let name = r.symbol.name in
        let first = and_parts (not (is_local r.symbol)) (is_bound_name name && (not (is_some (chosen os name)) && lost (named_output name))) e in
        let second = and_parts (is_bound_name name) (not (is_some (chosen os name)) && lost (named_output name)) first.1 in
        let third = and_parts (not (is_some (chosen os name))) (lost (named_output name)) second.1 in
        let w = one_passes (is_lost_by drops (named_output name)) (kept_sections os) (sym (lost_are (named_output name)) ∙ third.1) in
        let two = and_parts (is_lost drops w.x) (bytes_eq w.x.name (named_output name)) w.is in
        let same = (bytes_eq-Decides (named_output name) w.x.name).1 (sym ((bytes_eq-Decides w.x.name (named_output name)).0 two.1)) in record {
          p = w.x;
          among = w.among;
          gone = two.0;
          asks =
              and_from (not (is_local r.symbol)) (is_bound_name name && (bytes_eq (named_output name) w.x.name && not (is_some (chosen os name)))) first.0
              (and_from (is_bound_name name) (bytes_eq (named_output name) w.x.name && not (is_some (chosen os name))) second.0
              (and_from (bytes_eq (named_output name) w.x.name) (not (is_some (chosen os name))) same third.0));
        }

    abbrev Root : Piece → Type 0
    Root p = is_root l p ≡ true → kept.is_excluded l p ≡ false → is_in_image l p ≡ true

    gone_is : (p : Piece) → out p ≡ true → kept.is_excluded l p ≡ false → is_lost drops p ≡ true
    gone_is p gone keep = and_from (out p) (not (is_excluded p)) gone (ap not (sym (excluded_same p) ∙ keep))

    module _ (names : All (IsNameThere os drops) (root_symbols l)) (objects : AreObjectsRight os drops lost) where
      -- a section that defines a root symbol
      definition_there :
          (p : Piece) (k : ℕ) (o : LoadedObject) → slice_get os k ≡ Some o → IsPieceOf k o p → kept.is_excluded l p ≡ false →
          list_any (defines_root l p) (root_symbols l) ≡ true → is_in_image l p ≡ true
      definition_there p k o at is keep e = by (chosen os w.x) refl w.is
        where
          w : Passes (defines_root l p) (root_symbols l)
          w = one_passes (defines_root l p) (root_symbols l) e

          by :
              (c : Option SymbolOf) → chosen os w.x ≡ c → elim c as (λ _. Bool) [ None ↦ false | Some s ↦ is_section_of s p ] ≡ true →
              is_in_image l p ≡ true
          by None is_ of = absurd (false≢true of)
          by (Some s) is_ of =
              let keys = and_parts (s.object == p.object) (s.entry.st_shndx == p.section) of in
              let object : s.object ≡ k = (Decides-eqb s.object p.object).0 keys.0 ∙ is.object in
              let section : s.entry.st_shndx ≡ p.section = (Decides-eqb s.entry.st_shndx p.section).0 keys.1 in
              let never = All-contains (IsNameThere os drops) (root_symbols l) w.x names w.among s is_ o (ap (slice_get os) object ∙ at) in
              not_out p k is.object
              (λ gone. never
              (ap (λ (n : ℕ). presence drops n o s.entry.st_shndx) object
              ∙ (ap (presence drops k o) section ∙ (piece_presence k o p is keep ∙ ap (λ (b : Bool). Some (not b)) gone))))

      asked_there : (p : Piece) → Contains (kept_sections os) p → kept.is_excluded l p ≡ false → is_asked_for l p ≡ true → is_in_image l p ≡ true
      asked_there p c keep e =
          let w = one_passes (asks_bounds_of os p.name) (relocations_of l) e in
          let r = w.x in
          let among = Contains-from_filter (is_in_image_too l) (relocations os) r w.among in
          let of = relocation_object os r among.0 in
          let kept_ = All-contains (IsBoundKept os drops lost) (relocations_from of.k of.o) r (objects of.k of.o of.there).bounds of.is in
          not_out p p.object refl (λ gone. false≢true (sym (kept_ (not-true _ among.1)) ∙ bound_lost p r c (gone_is p gone keep) w.is))

      root_there : (p : Piece) → Contains (kept_sections os) p → is_root l p ≡ true → kept.is_excluded l p ≡ false → is_in_image l p ≡ true
      root_there p c root keep = by (root_cases of.k of.o of.there p of.is.1.object root)
        where
          of : OfObject (λ k o. Contains (pieces_from k o 0 (sections o.bytes)) p × IsPieceOf k o p) os
          of = piece_object os p c

          by : (is_root_kind (is_grouped of.o p.section) p ≡ true) ⊎ (others p ≡ true) → is_in_image l p ≡ true
          by (inl kind) =
              let right = All-contains (IsRightIn drops of.k of.o) (pieces_from of.k of.o 0 (sections of.o.bytes)) p (objects of.k of.o of.there).pieces of.is.0 in
              ap not (right.out.stays kind (sym (excluded_same p) ∙ keep))
          by (inr other) = part (or_cases (list_any (defines_root l p) (root_symbols l)) (is_asked_for l p) other)
            where
              part : (list_any (defines_root l p) (root_symbols l) ≡ true) ⊎ (is_asked_for l p ≡ true) → is_in_image l p ≡ true
              part (inl defines) = definition_there p of.k of.o of.there of.is.1 keep defines
              part (inr asked) = asked_there p c keep asked

      link_follows : (p : Piece) → Contains (kept_sections os) p → FollowsLink l p
      link_follows p c flag =
          let of = piece_object os p c in
          let right = All-contains (IsRightIn drops of.k of.o) (pieces_from of.k of.o 0 (sections of.o.bytes)) p (objects of.k of.o of.there).pieces of.is.0 in
          right.link flag ∙ sym (linked_same of.k of.o of.there p of.is.1.object)

      pub collected : l.plan.collects ≡ true → IsKept l
      collected collects = record {
        excluded =
            All-from_contains (λ (p : Piece). kept.is_excluded l p ≡ true → is_in_image l p ≡ false) (kept_sections os)
            (λ p c e.
            let of = piece_object os p c in
            let right = All-contains (IsRightIn drops of.k of.o) (pieces_from of.k of.o 0 (sections of.o.bytes)) p (objects of.k of.o of.there).pieces of.is.0 in
            ap not (right.out.excluded (sym (excluded_same p) ∙ e)));
        all = λ none. absurd (false≢true (sym none ∙ collects));
        collected = λ _. record {
          roots = All-from_contains Root (kept_sections os) (λ p c root keep. root_there p c root keep);
          groups = λ k o at.
              All-from_contains (IsWhole l k) (groups o.bytes)
              (λ g c. whole_from k o at g (All-contains (IsWholeIn drops k o) (groups o.bytes) g (objects k o at).groups_are c));
          links = All-from_contains (FollowsLink l) (kept_sections os) (λ p c. link_follows p c);
        };
      }

    module _ (is : IsKept l) (collects : l.plan.collects ≡ true) where
      root_in : (p : Piece) → Contains (kept_sections os) p → Root p
      root_in p c = All-contains Root (kept_sections os) p (is.collected collects).roots c

      pub names_there : All (IsNameThere os drops) (root_symbols l)
      names_there =
          All-from_contains (IsNameThere os drops) (root_symbols l)
          (λ name c s chosen_ o at e.
          let k = s.object in
          let i = s.entry.st_shndx in
          let here = present k o i false e in
          let h = header_at o i in
          let p = piece_of k o.bytes i h in
          let among = piece_among os k o at p (piece_listed os k o at i h (section_there o i here.kept_is) here.kept_is) in
          let defines : defines_root l p name ≡ true =
          ap (λ (x : Option SymbolOf). elim x as (λ _. Bool) [ None ↦ false | Some t ↦ is_section_of t p ]) chosen_
          ∙ and_from (k == k) (i == i) ((Decides-eqb k k).1 refl) ((Decides-eqb i i).1 refl) in
          let root = root_by_others p (or_left (list_any (defines_root l p) (root_symbols l)) (is_asked_for l p) (passes (defines_root l p) (root_symbols l) name c defines)) in
          false≢true (sym here.there ∙ root_in p among root (excluded_same p ∙ here.plain)))

      pieces_right : (k : ℕ) (o : LoadedObject) → slice_get os k ≡ Some o → All (IsRightIn drops k o) (pieces_from k o 0 (sections o.bytes))
      pieces_right k o at =
          All-from_contains (IsRightIn drops k o) (pieces_from k o 0 (sections o.bytes))
          (λ p c.
          let among = piece_among os k o at p c in
          let of = piece_is k o p c in record {
            out = record {
              excluded = λ e. not-false _ (All-contains (λ (q : Piece). kept.is_excluded l q ≡ true → is_in_image l q ≡ false) (kept_sections os) p is.excluded among (excluded_same p ∙ e));
              stays = λ kind keep. not-true _ (root_in p among (root_by_kind k o at p of.object kind) (excluded_same p ∙ keep));
            };
            link = λ flag.
                All-contains (FollowsLink l) (kept_sections os) p (is.collected collects).links among flag ∙ linked_same k o at p of.object;
          })

      bounds_kept : (k : ℕ) (o : LoadedObject) → slice_get os k ≡ Some o → All (IsBoundKept os drops lost) (relocations_from k o)
      bounds_kept k o at =
          All-from_contains (IsBoundKept os drops lost) (relocations_from k o)
          (λ r c in_.
          false_from_ne_true (is_bound_lost os lost r.symbol)
          (λ e.
          let w = lost_piece r e in
          let gone = and_parts (out w.p) (not (is_excluded w.p)) w.gone in
          let asked : is_asked_for l w.p ≡ true =
          passes (asks_bounds_of os w.p.name) (relocations_of l) r
          (Contains-filter (is_in_image_too l) (relocations os) r (relocation_among os k o at r c) (ap not in_)) w.asks in
          let root = root_by_others w.p (or_right (list_any (defines_root l w.p) (root_symbols l)) (is_asked_for l w.p) asked) in
          false≢true (sym (ap not gone.0) ∙ root_in w.p w.among root (excluded_same w.p ∙ not-true _ gone.1))))

      pub objects_right : AreObjectsRight os drops lost
      objects_right k o at = record {
        pieces = pieces_right k o at;
        groups_are =
            All-from_contains (IsWholeIn drops k o) (groups o.bytes)
            (λ g c. from_whole k o at g (All-contains (IsWhole l k) (groups o.bytes) g ((is.collected collects).groups k o at) c));
        bounds = bounds_kept k o at;
      }

-- what is so of objects, of lines and of names is so of the same ones
pub names_same :
    (xs ys : List LoadedObject) (ds es : List DropLine) (ns ms : List (List ℕ)) → xs ≡ ys → ds ≡ es → ns ≡ ms → All (IsNameThere xs ds) ns →
    All (IsNameThere ys es) ms
names_same xs ys ds es ns ms objects lines names all =
    subst (All (IsNameThere ys es)) names
    (subst (λ (fs : List DropLine). All (IsNameThere ys fs) ns) lines (subst (λ (zs : List LoadedObject). All (IsNameThere zs ds) ns) objects all))

pub objects_same :
    (xs ys : List LoadedObject) (ds es : List DropLine) (lost : List ℕ → Bool) → xs ≡ ys → ds ≡ es → AreObjectsRight xs ds lost →
    AreObjectsRight ys es lost
objects_same xs ys ds es lost objects lines all =
    subst (λ (fs : List DropLine). AreObjectsRight ys fs lost) lines (subst (λ (zs : List LoadedObject). AreObjectsRight zs ds lost) objects all)
