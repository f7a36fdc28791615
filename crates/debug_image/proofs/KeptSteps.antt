-- Kept groups, with one more group, and with one more member of one.
use Rattle.std.proofs.Common.{◌≡◌, ◌+◌, ◌∙◌, ◌++◌, ◌∷◌, [], ℕ, Bool, true, false, cond, ◌&&◌, List, Option, None, Some, ap, append_assoc, arith, length, option_map, refl, subst, sym, suc, zero}
use Rattle.std.specs.Prelude.{find, nat_eq}
use Rattle.std.specs.List.{slice_get}
use Rattle.std.specs.Option.{is_some, option_and_then, option_or}
use Rattle.std.specs.Str.{bytes_eq}
use Rattle.std.proofs.lemmas.Bool.{and_from, and_parts, eqb-true, eq-eqb, false≢true, ne_eqb}
use Rattle.std.proofs.Math.Nat.{add-zero}
use Rattle.std.proofs.lemmas.List.{append-nil, length-append}
use Rattle.std.proofs.lemmas.List.Folds.{find-append}
use Rattle.std.proofs.lemmas.Option.{none-some, same_Some, slice_get_past, slice_get_within}
use Rattle.std.proofs.lemmas.Slice.Eq.{bytes_eq-Decides}
use Rattle.indexmap.specs.IndexMap.{IndexMap, get, get_by, index_map_len}
use Rattle.elf_model.specs.Link.Groups.{is_comdat}
use Rattle.elf_model.specs.Link.Loading.{LoadedObject}
use Rattle.elf_model.specs.declared.name.Name.{Name}
use Rattle.elf_model.specs.declared.references.SectionRef.{SectionRef}
use Rattle.debug_image.specs.KeptGroups.{ObjectGroup, groups_from, groups_in, has_size_and_name, is_comdat_of, kept_among, member_of}
use Rattle.debug_image.specs.KeptTables.{AreKept, at_number, is_key_of, key_eq, member_among, member_at, member_behind, name_eq}
use Rattle.debug_image.specs.ObjectSections.{header_in, name_in, section_ref}
use Rattle.debug_image.specs.declared.kept_groups.KeptGroup.{KeptGroup}
use Rattle.debug_image.specs.declared.kept_groups.KeptGroups as code
use Rattle.debug_image.specs.declared.kept_groups.MemberKey.{MemberKey}

-- what is found in a list with one more element
pub find_behind : {X : Type 0} (p : X → Bool) (xs : List X) (x : X) → find p (xs ++ x ∷ []) ≡ option_or (find p xs) (cond (p x) (Some x) None)
find_behind p xs x = find-append p xs (x ∷ [])

suc_eq : (a b : ℕ) → nat_eq a b ≡ nat_eq (suc a) (suc b)
suc_eq a b = by (nat_eq a b) refl
  where
    by : (t : Bool) → nat_eq a b ≡ t → t ≡ nat_eq (suc a) (suc b)
    by true e = sym (eq-eqb (suc a) (suc b) (ap suc (eqb-true a b e)))
    by false e = sym (ne_eqb (suc a) (suc b) (λ same. false≢true (sym e ∙ eq-eqb a b (omega (arith, same)))))

pub at_behind : {X : Type 0} (xs : List X) (x : X) (i : ℕ) → slice_get (xs ++ x ∷ []) i ≡ option_or (slice_get xs i) (cond (nat_eq (length xs) i) (Some x) None)
at_behind [] x zero = refl
at_behind [] x (suc i) = ap (λ (b : Bool). cond b (Some x) None) (sym (ne_eqb 0 (suc i) (λ same. omega (arith, same))))
at_behind (y ∷ ys) x zero = refl
at_behind (y ∷ ys) x (suc i) = at_behind ys x i ∙ ap (λ (b : Bool). option_or (slice_get ys i) (cond b (Some x) None)) (suc_eq (length ys) i)

-- what holds for each element by its place, with one more
pub each_more :
    {X : Type 0} (P : ℕ → X → Type 0) (xs new : List X) (x : X) → new ≡ xs ++ x ∷ [] → P (length xs) x →
    ((n : ℕ) (y : X) → slice_get xs n ≡ Some y → P n y) → (n : ℕ) (y : X) → slice_get new n ≡ Some y → P n y
each_more {X} P xs new x is here each n y there =
    by (slice_get xs n) refl (nat_eq (length xs) n) refl (sym (ap (λ (ys : List X). slice_get ys n) is ∙ at_behind xs x n) ∙ there)
  where
    by :
        (a : Option X) → slice_get xs n ≡ a → (b : Bool) → nat_eq (length xs) n ≡ b → option_or (slice_get xs n) (cond b (Some x) None) ≡ Some y → P n y
    by (Some z) e b f found = each n y (e ∙ (ap (λ (o : Option X). option_or o (cond b (Some x) None)) (sym e) ∙ found))
    by None e false f found = absurd (none-some y (ap (λ (o : Option X). option_or o None) (sym e) ∙ found))
    by None e true f found =
        subst (λ (k : ℕ). P k y) (eqb-true (length xs) n f) (subst (P (length xs)) (same_Some x y (ap (λ (o : Option X). option_or o (Some x)) (sym e) ∙ found)) here)

pub or_none : {X : Type 0} (o : Option X) → option_or o None ≡ o
or_none None = refl
or_none (Some x) = refl

pub and_false : (b : Bool) → (b && false) ≡ false
and_false true = refl
and_false false = refl

gone : {X : Type 0} (o : Option X) → is_some o ≡ false → o ≡ None
gone None isnt = refl
gone (Some n) isnt = absurd (false≢true (sym isnt))

-- keys that are alike find the same
pub names_alike : {V S : Type 0} (m : IndexMap Name V S) (a b : Name) → name_eq a b ≡ true → get name_eq m a ≡ get name_eq m b
names_alike m a b e = ap (λ (n : List ℕ). get_by (λ (k : Name). bytes_eq n k.0.now) m) ((bytes_eq-Decides a.0.now b.0.now).0 e)

parts_alike : (a b : MemberKey) → key_eq a b ≡ true → (a.group ≡ b.group) × (a.size ≡ b.size) × (a.name.0.now ≡ b.name.0.now)
parts_alike a b e =
    let p = and_parts (nat_eq a.group b.group) (nat_eq a.size b.size && bytes_eq a.name.0.now b.name.0.now) e in
    let q = and_parts (nat_eq a.size b.size) (bytes_eq a.name.0.now b.name.0.now) p.1 in
    (eqb-true a.group b.group p.0, eqb-true a.size b.size q.0, (bytes_eq-Decides a.name.0.now b.name.0.now).0 q.1)

by_parts : ℕ → ℕ → List ℕ → MemberKey → Bool
by_parts g s n k = nat_eq g k.group && (nat_eq s k.size && bytes_eq n k.name.0.now)

pub keys_alike : {V S : Type 0} (m : IndexMap MemberKey V S) (a b : MemberKey) → key_eq a b ≡ true → get key_eq m a ≡ get key_eq m b
keys_alike m a b e =
    let p = parts_alike a b e in
    ap (λ (g : ℕ). get_by (λ (k : MemberKey). nat_eq g k.group && (nat_eq a.size k.size && bytes_eq a.name.0.now k.name.0.now)) m) p.0
    ∙ (ap (λ (s : ℕ). get_by (λ (k : MemberKey). nat_eq b.group k.group && (nat_eq s k.size && bytes_eq a.name.0.now k.name.0.now)) m) p.1
    ∙ ap (λ (n : List ℕ). get_by (λ (k : MemberKey). nat_eq b.group k.group && (nat_eq b.size k.size && bytes_eq n k.name.0.now)) m) p.2)

-- a key of a member of a group
module _ (group : ℕ) (o : LoadedObject) (n : ℕ) (a : MemberKey) (of_group : a.group ≡ group) (of_size : a.size ≡ (header_in o n).sh_size) (of_name : a.name.0.now ≡ name_in o n) where
  pub is_key : (k : MemberKey) → key_eq a k ≡ is_key_of group o n k
  is_key k =
      ap (λ (g : ℕ). nat_eq g k.group && (nat_eq a.size k.size && bytes_eq a.name.0.now k.name.0.now)) of_group
      ∙ (ap (λ (s : ℕ). nat_eq group k.group && (nat_eq s k.size && bytes_eq a.name.0.now k.name.0.now)) of_size
      ∙ ap (λ (t : List ℕ). nat_eq group k.group && (nat_eq (header_in o n).sh_size k.size && bytes_eq t k.name.0.now)) of_name)

  -- it is there already, or is added
  pub known_member :
      {S : Type 0} (m : IndexMap MemberKey SectionRef S) (r : SectionRef) → is_some (get key_eq m a) ≡ true → (k : MemberKey) →
      get key_eq m k ≡ option_or (get key_eq m k) (cond (is_key_of group o n k) (Some r) None)
  known_member m r there k = by (key_eq a k) refl
    where
      some : (x : Option SectionRef) → is_some x ≡ true → x ≡ option_or x (Some r)
      some None e = absurd (false≢true e)
      some (Some y) e = refl

      by : (b : Bool) → key_eq a k ≡ b → get key_eq m k ≡ option_or (get key_eq m k) (cond (is_key_of group o n k) (Some r) None)
      by true e =
          some (get key_eq m k) (ap is_some (sym (keys_alike m a k e)) ∙ there)
          ∙ ap (λ (b : Bool). option_or (get key_eq m k) (cond b (Some r) None)) (sym e ∙ is_key k)
      by false e =
          sym (or_none (get key_eq m k))
          ∙ ap (λ (b : Bool). option_or (get key_eq m k) (cond b (Some r) None)) (sym e ∙ is_key k)

  pub new_member :
      {S T : Type 0} (m : IndexMap MemberKey SectionRef S) (new : IndexMap MemberKey SectionRef T) (r : SectionRef) → is_some (get key_eq m a) ≡ false →
      ((k : MemberKey) → get key_eq new k ≡ cond (key_eq a k) (Some r) (get key_eq m k)) → (k : MemberKey) →
      get key_eq new k ≡ option_or (get key_eq m k) (cond (is_key_of group o n k) (Some r) None)
  new_member m new r none updated k = updated k ∙ by (key_eq a k) refl
    where
      by : (b : Bool) → key_eq a k ≡ b → cond (key_eq a k) (Some r) (get key_eq m k) ≡ option_or (get key_eq m k) (cond (is_key_of group o n k) (Some r) None)
      by true e =
          ap (λ (b : Bool). cond b (Some r) (get key_eq m k)) e
          ∙ (ap (λ (x : Option SectionRef). option_or x (Some r)) (sym (gone (get key_eq m a) none) ∙ keys_alike m a k e)
          ∙ ap (λ (b : Bool). option_or (get key_eq m k) (cond b (Some r) None)) (sym e ∙ is_key k))
      by false e =
          ap (λ (b : Bool). cond b (Some r) (get key_eq m k)) e
          ∙ (sym (or_none (get key_eq m k))
          ∙ ap (λ (b : Bool). option_or (get key_eq m k) (cond b (Some r) None)) (sym e ∙ is_key k))

-- one member more behind those of a group
pub member_more :
    {S : Type 0} (m : IndexMap MemberKey SectionRef S) (group number : ℕ) (o : LoadedObject) (ns : List ℕ) (n : ℕ) (k : MemberKey) (now new : Option SectionRef) →
    now ≡ member_behind m group number o ns k → new ≡ option_or now (cond (is_key_of group o n k) (Some (section_ref number n)) None) →
    new ≡ member_behind m group number o (ns ++ n ∷ []) k
member_more m group number o ns n k now new is more =
    more
    ∙ (ap (λ (x : Option SectionRef). option_or x (cond (is_key_of group o n k) (Some (section_ref number n)) None)) is
    ∙ by (get key_eq m k) (nat_eq group k.group) (find has ns) (has n) (find has (ns ++ n ∷ [])) (find_behind has ns n))
  where
    has : ℕ → Bool
    has = has_size_and_name o k.size k.name.0.now

    by :
        (a : Option SectionRef) (g : Bool) (f : Option ℕ) (h : Bool) (all : Option ℕ) → all ≡ option_or f (cond h (Some n) None) →
        option_or (option_or a (cond g (option_map (section_ref number) f) None)) (cond (g && h) (Some (section_ref number n)) None)
        ≡ option_or a (cond g (option_map (section_ref number) all) None)
    by (Some r) g f h all e = refl
    by None false f h all e = refl
    by None true (Some x) h all e = ap (option_map (section_ref number)) (sym e)
    by None true None true all e = ap (option_map (section_ref number)) (sym e)
    by None true None false all e = ap (option_map (section_ref number)) (sym e)

-- the kept groups of some groups, with one more
kept_behind : (seen : List ObjectGroup) (g : ObjectGroup) (signature : List ℕ) → kept_among (seen ++ g ∷ []) signature ≡ option_or (kept_among seen signature) (cond (is_comdat_of signature g) (Some g) None)
kept_behind seen g signature = find_behind (is_comdat_of signature) seen g

same_kept : (seen : List ObjectGroup) (g : ObjectGroup) (signature : List ℕ) → is_comdat_of signature g ≡ false → kept_among (seen ++ g ∷ []) signature ≡ kept_among seen signature
same_kept seen g signature other =
    kept_behind seen g signature
    ∙ (ap (λ (b : Bool). option_or (kept_among seen signature) (cond b (Some g) None)) other ∙ or_none (kept_among seen signature))

module _ (seen : List ObjectGroup) (x : code.KeptGroups) (a : AreKept seen x) (g : ObjectGroup) where
  -- the group is no COMDAT one
  pub plain_group : is_comdat g.group ≡ false → AreKept (seen ++ g ∷ []) x
  plain_group plain = record {
    kept = a.kept;
    count = a.count;
    found = λ n. a.found n ∙ sym (same_kept seen g n.0.now (ap (λ (b : Bool). b && bytes_eq g.group.signature n.0.now) plain));
    among = a.among;
    members = a.members;
  }

  module _ (key : Name) (of_g : key.0.now ≡ g.group.signature) where
    of_other : (n : Name) → name_eq key n ≡ false → is_comdat_of n.0.now g ≡ false
    of_other n other =
        ap (λ (s : List ℕ). is_comdat g.group && bytes_eq s n.0.now) (sym of_g)
        ∙ (ap (λ (b : Bool). is_comdat g.group && b) other ∙ and_false (is_comdat g.group))

    -- its signature is known
    pub known_group : is_some (get name_eq x.groups key) ≡ true → AreKept (seen ++ g ∷ []) x
    known_group there = record {
      kept = a.kept;
      count = a.count;
      found = λ n. a.found n ∙ sym (by n (name_eq key n) refl);
      among = a.among;
      members = a.members;
    }
      where
        first : (n : Name) → (o : Option KeptGroup) → get name_eq x.groups n ≡ o → is_some o ≡ true → kept_among (seen ++ g ∷ []) n.0.now ≡ kept_among seen n.0.now
        first n None is some = absurd (false≢true some)
        first n (Some r) is some =
            let at = a.among n r is in
            let here : kept_among seen n.0.now ≡ Some at.0 = sym (a.found n) ∙ (ap (option_and_then (at_number a.kept)) is ∙ at.1) in
            kept_behind seen g n.0.now
            ∙ (ap (λ (o : Option ObjectGroup). option_or o (cond (is_comdat_of n.0.now g) (Some g) None)) here ∙ sym here)

        by : (n : Name) (b : Bool) → name_eq key n ≡ b → kept_among (seen ++ g ∷ []) n.0.now ≡ kept_among seen n.0.now
        by n false e = same_kept seen g n.0.now (of_other n e)
        by n true e = first n (get name_eq x.groups n) refl (ap is_some (sym (names_alike x.groups key n e)) ∙ there)

    -- its signature is new
    module _ (y : code.KeptGroups) (r : KeptGroup) (comdat : is_comdat g.group ≡ true) (none : is_some (get name_eq x.groups key) ≡ false)
        (numbered : r.number ≡ index_map_len x.groups) (of_object : r.object ≡ g.object) (one_more : index_map_len y.groups ≡ index_map_len x.groups + 1)
        (updated : (n : Name) → get name_eq y.groups n ≡ cond (name_eq key n) (Some r) (get name_eq x.groups n))
        (members : (k : MemberKey) → get key_eq y.members k ≡ member_behind x.members r.number g.object g.own g.group.members k) where
      last : slice_get (a.kept ++ g ∷ []) r.number ≡ Some g
      last =
          ap (slice_get (a.kept ++ g ∷ [])) (numbered ∙ a.count)
          ∙ (at_behind a.kept g (length a.kept)
          ∙ (ap (λ (o : Option ObjectGroup). option_or o (cond (nat_eq (length a.kept) (length a.kept)) (Some g) None)) (slice_get_past a.kept (length a.kept) (omega arith))
          ∙ ap (λ (b : Bool). cond b (Some g) None) (eq-eqb (length a.kept) (length a.kept) refl)))

      stays : (i : ℕ) (h : ObjectGroup) → slice_get a.kept i ≡ Some h → slice_get (a.kept ++ g ∷ []) i ≡ Some h
      stays i h is = at_behind a.kept g i ∙ ap (λ (o : Option ObjectGroup). option_or o (cond (nat_eq (length a.kept) i) (Some g) None)) is

      same_at : (n : Name) (o : Option KeptGroup) → get name_eq x.groups n ≡ o → option_and_then (at_number (a.kept ++ g ∷ [])) o ≡ option_and_then (at_number a.kept) o
      same_at n None is = refl
      same_at n (Some s) is = let at = a.among n s is in stays s.number at.0 at.1 ∙ sym at.1

      found_by : (n : Name) (b : Bool) → name_eq key n ≡ b → option_and_then (at_number (a.kept ++ g ∷ [])) (cond b (Some r) (get name_eq x.groups n)) ≡ kept_among (seen ++ g ∷ []) n.0.now
      found_by n true e =
          let unseen : kept_among seen n.0.now ≡ None =
          sym (a.found n) ∙ ap (option_and_then (at_number a.kept)) (sym (names_alike x.groups key n e) ∙ gone (get name_eq x.groups key) none) in
          let is : is_comdat_of n.0.now g ≡ true =
          and_from (is_comdat g.group) (bytes_eq g.group.signature n.0.now) comdat (ap (λ (s : List ℕ). bytes_eq s n.0.now) (sym of_g) ∙ e) in
          last
          ∙ sym
          (kept_behind seen g n.0.now
          ∙ (ap (λ (o : Option ObjectGroup). option_or o (cond (is_comdat_of n.0.now g) (Some g) None)) unseen
          ∙ ap (λ (b : Bool). cond b (Some g) None) is))
      found_by n false e = same_at n (get name_eq x.groups n) refl ∙ (a.found n ∙ sym (same_kept seen g n.0.now (of_other n e)))

      among_by :
          (n : Name) (s : KeptGroup) (b : Bool) → cond b (Some r) (get name_eq x.groups n) ≡ Some s →
          (h : ObjectGroup) × (slice_get (a.kept ++ g ∷ []) s.number ≡ Some h) × (s.object ≡ h.object)
      among_by n s true is =
          let same : r ≡ s = same_Some r s is in
          (g, subst (λ (t : KeptGroup). slice_get (a.kept ++ g ∷ []) t.number ≡ Some g) same last, subst (λ (t : KeptGroup). t.object ≡ g.object) same of_object)
      among_by n s false is = let at = a.among n s is in (at.0, stays s.number at.0 at.1, at.2)

      abbrev like : MemberKey → ObjectGroup → Option SectionRef
      like k h = member_of h k.size k.name.0.now

      member_by :
          (k : MemberKey) (o : Option ObjectGroup) (b : Bool) → slice_get a.kept k.group ≡ o → nat_eq (length a.kept) k.group ≡ b →
          option_or (option_and_then (like k) o) (cond b (member_among g.object g.own g.group.members k) None) ≡ option_and_then (like k) (option_or o (cond b (Some g) None))
      member_by k None true is e = refl
      member_by k None false is e = refl
      member_by k (Some h) false is e = or_none (like k h)
      member_by k (Some h) true is e =
          let low = slice_get_within a.kept k.group h is in
          let same = eqb-true (length a.kept) k.group e in
          absurd (omega (arith, low, same))

      pub new_group : AreKept (seen ++ g ∷ []) y
      new_group = record {
        kept = a.kept ++ g ∷ [];
        count = one_more ∙ (ap (λ (n : ℕ). n + 1) a.count ∙ sym (length-append a.kept (g ∷ [])));
        found = λ n. ap (option_and_then (at_number (a.kept ++ g ∷ []))) (updated n) ∙ found_by n (name_eq key n) refl;
        among = λ n s is. among_by n s (name_eq key n) (sym (updated n) ∙ is);
        members = λ k.
            members k
            ∙ (ap (λ (o : Option SectionRef). option_or o (cond (nat_eq r.number k.group) (member_among g.object g.own g.group.members k) None)) (a.members k)
            ∙ (ap (λ (i : ℕ). option_or (member_at a.kept k) (cond (nat_eq i k.group) (member_among g.object g.own g.group.members k) None)) (numbered ∙ a.count)
            ∙ (member_by k (slice_get a.kept k.group) (nat_eq (length a.kept) k.group) refl refl
            ∙ ap (option_and_then (like k)) (sym (at_behind a.kept g k.group)))));
      }

-- the groups of one more object
pub groups_behind : (k : ℕ) (os : List LoadedObject) (o : LoadedObject) → groups_from k (os ++ o ∷ []) ≡ groups_from k os ++ groups_in (k + length os) o
groups_behind k [] o = append-nil (groups_in k o) ∙ ap (λ (n : ℕ). groups_in n o) (sym (add-zero k))
groups_behind k (p ∷ os) o =
    ap (λ (gs : List ObjectGroup). groups_in k p ++ gs) (groups_behind (k + 1) os o)
    ∙ (sym (append_assoc (groups_in k p) (groups_from (k + 1) os) (groups_in (k + 1 + length os) o))
    ∙ ap (λ (n : ℕ). (groups_in k p ++ groups_from (k + 1) os) ++ groups_in n o) (grind (arith)))
