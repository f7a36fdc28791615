-- The numbers of names, as names come one by one, and what is known of each.
use Rattle.std.proofs.Common.{◌≡◌, ◌≢◌, ℕ, suc, ◌+◌, ◌<◌, Bool, true, false, cond, not, ◌||◌, List, [], ◌∷◌, ◌++◌, map, length, get_or, Some, None, refl, sym, ◌∙◌, ap, arith, true≢false}
use Rattle.std.specs.Prelude.{nat_lt, set, slice_index_or}
use Rattle.std.specs.List.{position, position_or_len}
use Rattle.std.specs.Str.{bytes_eq}
use Rattle.std.proofs.lemmas.List.{get_or-set_other, get_or-set_same, get_or_default, length-append}
use Rattle.std.proofs.lemmas.Slice.Eq.{bytes_eq-Decides}
use Rattle.elf_model.specs.declared.name.Name.{Name}
use Rattle.elf_model.proofs.LoadingBounds.{by_case}
use Rattle.search.specs.Mentions.{mention_of, no_mention}
use Rattle.search.specs.Names.{is_among, number_of, with_name}
use Rattle.search.specs.declared.loader.Mention.{Mention}

-- by the keys of a set
pub number_map : (keys : List Name) (n : List ℕ) → position_or_len (λ k. bytes_eq n k.0.now) keys ≡ number_of (map (λ k. k.0.now) keys) n
number_map [] n = refl
number_map (k ∷ ks) n = ap (λ (c : ℕ). cond (not (bytes_eq n k.0.now)) (1 + c) 0) (number_map ks n)

length_map : (keys : List Name) → length keys ≡ length (map (λ k. k.0.now) keys)
length_map [] = refl
length_map (k ∷ ks) = ap (λ (c : ℕ). suc c) (length_map ks)

pub position_map : (keys : List Name) (n : List ℕ) → position (λ k. bytes_eq n k.0.now) keys ≡ position (bytes_eq n) (map (λ k. k.0.now) keys)
position_map keys n =
    ap (λ (c : ℕ). cond (nat_lt c (length keys)) (Some c) None) (number_map keys n)
    ∙ ap (λ (c : ℕ). cond (nat_lt (number_of (map (λ k. k.0.now) keys) n) c) (Some (number_of (map (λ k. k.0.now) keys) n)) None) (length_map keys)

-- a name that is among names has one of the first numbers, and another one their count
pub number_below : (names : List (List ℕ)) (n : List ℕ) → is_among names n ≡ true → number_of names n < length names
number_below [] n there = absurd (true≢false (sym there))
number_below (m ∷ ms) n there = by (bytes_eq n m) refl (number_below ms n)
  where
    by : (b : Bool) → bytes_eq n m ≡ b → (is_among ms n ≡ true → number_of ms n < length ms) → cond (not b) (1 + number_of ms n) 0 < length (m ∷ ms)
    by true e rest = omega arith
    by false e rest = omega (arith, rest (sym (ap (λ (c : Bool). c || is_among ms n) e) ∙ there))

pub number_past : (names : List (List ℕ)) (n : List ℕ) → is_among names n ≡ false → number_of names n ≡ length names
number_past [] n past = refl
number_past (m ∷ ms) n past = by (bytes_eq n m) refl (number_past ms n)
  where
    by : (b : Bool) → bytes_eq n m ≡ b → (is_among ms n ≡ false → number_of ms n ≡ length ms) → cond (not b) (1 + number_of ms n) 0 ≡ length (m ∷ ms)
    by true e rest = absurd (true≢false (sym (ap (λ (c : Bool). c || is_among ms n) e) ∙ past))
    by false e rest = omega (arith, rest (sym (ap (λ (c : Bool). c || is_among ms n) e) ∙ past))

-- the name that has a number
pub number_at : (names : List (List ℕ)) (n d : List ℕ) → is_among names n ≡ true → get_or names (number_of names n) d ≡ n
number_at [] n d there = absurd (true≢false (sym there))
number_at (m ∷ ms) n d there = by (bytes_eq n m) refl (number_at ms n d)
  where
    by : (b : Bool) → bytes_eq n m ≡ b → (is_among ms n ≡ true → get_or ms (number_of ms n) d ≡ n) → get_or (m ∷ ms) (cond (not b) (1 + number_of ms n) 0) d ≡ n
    by true e rest = sym ((bytes_eq-Decides n m).0 e)
    by false e rest =
        let next : 1 + number_of ms n ≡ suc (number_of ms n) = omega arith in
        rw next (rest (sym (ap (λ (c : Bool). c || is_among ms n) e) ∙ there))

-- only one name has a number
pub number_once : (names : List (List ℕ)) (a b : List ℕ) → is_among names a ≡ true → number_of names b ≡ number_of names a → bytes_eq a b ≡ true
number_once names a b there same = by_case (is_among names b)
    (λ t. (bytes_eq-Decides a b).1 (sym (number_at names a [] there) ∙ (ap (λ (i : ℕ). get_or names i []) (sym same) ∙ number_at names b [] t)))
    (λ f. absurd (omega (arith, number_below names a there, number_past names b f, same)))

-- a name keeps its number where others come behind it
pub number_grows : (names rest : List (List ℕ)) (n : List ℕ) → is_among names n ≡ true → number_of (names ++ rest) n ≡ number_of names n
number_grows [] rest n there = absurd (true≢false (sym there))
number_grows (m ∷ ms) rest n there = by (bytes_eq n m) refl (number_grows ms rest n)
  where
    by : (b : Bool) → bytes_eq n m ≡ b → (is_among ms n ≡ true → number_of (ms ++ rest) n ≡ number_of ms n) → cond (not b) (1 + number_of (ms ++ rest) n) 0 ≡ cond (not b) (1 + number_of ms n) 0
    by true e more = refl
    by false e more = ap (λ (c : ℕ). 1 + c) (more (sym (ap (λ (c : Bool). c || is_among ms n) e) ∙ there))

-- the last one's number is the count of those before it
number_pushed : (names : List (List ℕ)) (n : List ℕ) → is_among names n ≡ false → number_of (names ++ n ∷ []) n ≡ length names
number_pushed [] n past = ap (λ (c : Bool). cond (not c) (1 + 0) 0) ((bytes_eq-Decides n n).1 refl)
number_pushed (m ∷ ms) n past = by (bytes_eq n m) refl (number_pushed ms n)
  where
    by : (b : Bool) → bytes_eq n m ≡ b → (is_among ms n ≡ false → number_of (ms ++ n ∷ []) n ≡ length ms) → cond (not b) (1 + number_of (ms ++ n ∷ []) n) 0 ≡ length (m ∷ ms)
    by true e rest = absurd (true≢false (sym (ap (λ (c : Bool). c || is_among ms n) e) ∙ past))
    by false e rest = omega (arith, rest (sym (ap (λ (c : Bool). c || is_among ms n) e) ∙ past))

-- a name that comes has its number among the names before it, or their count
pub number_with : (names : List (List ℕ)) (n : List ℕ) → number_of (with_name names n) n ≡ number_of names n
number_with names n = by_case (is_among names n)
    (λ t. ap (λ (b : Bool). number_of (cond b names (names ++ n ∷ [])) n) t)
    (λ f. ap (λ (b : Bool). number_of (cond b names (names ++ n ∷ [])) n) f ∙ (number_pushed names n f ∙ sym (number_past names n f)))

-- a mention for a name that comes changes no other
pub mention_added : (names : List (List ℕ)) (mentions : List Mention) (x n : List ℕ) → length mentions ≡ length names →
    mention_of (names ++ x ∷ []) (mentions ++ no_mention ∷ []) n ≡ mention_of names mentions n
mention_added [] [] x n sized = elim (bytes_eq n x) as (λ b. slice_index_or (no_mention ∷ []) (cond (not b) 1 0) no_mention ≡ no_mention) [ true ↦ refl | false ↦ refl ]
mention_added [] (k ∷ ks) x n sized = absurd (omega (arith, sized))
mention_added (m ∷ ms) [] x n sized = absurd (omega (arith, sized))
mention_added (m ∷ ms) (k ∷ ks) x n sized =
    elim (bytes_eq n m) as (λ b. slice_index_or (k ∷ (ks ++ no_mention ∷ [])) (cond (not b) (1 + number_of (ms ++ x ∷ []) n) 0) no_mention ≡ slice_index_or (k ∷ ks) (cond (not b) (1 + number_of ms n) 0) no_mention) [
      | true ↦ refl
      | false ↦
          let left : 1 + number_of (ms ++ x ∷ []) n ≡ suc (number_of (ms ++ x ∷ []) n) = omega arith in
          let right : 1 + number_of ms n ≡ suc (number_of ms n) = omega arith in
          rw (left, right) (mention_added ms ks x n (omega (arith, sized)))
    ]

-- the mention of a name is written
pub mention_set : (names : List (List ℕ)) (mentions : List Mention) (name n : List ℕ) (i : ℕ) (m : Mention) → length mentions ≡ length names →
    is_among names name ≡ true → i ≡ number_of names name →
    mention_of names (set mentions i m) n ≡ cond (bytes_eq name n) m (mention_of names mentions n)
mention_set names mentions name n i m sized there is = by (bytes_eq name n) refl
  where
    inside : i < length mentions
    inside = omega (arith, sized, is, number_below names name there)

    by : (b : Bool) → bytes_eq name n ≡ b → get_or (set mentions i m) (number_of names n) no_mention ≡ cond b m (get_or mentions (number_of names n) no_mention)
    by true e =
        let same : number_of names n ≡ i = ap (number_of names) (sym ((bytes_eq-Decides name n).0 e)) ∙ sym is in
        ap (λ (k : ℕ). get_or (set mentions i m) k no_mention) same ∙ get_or-set_same mentions i m no_mention inside
    by false e = get_or-set_other mentions i (number_of names n) m no_mention (λ same. true≢false (sym (number_once names name n there (same ∙ is)) ∙ e))

-- a name whose number is the count of names is new
pub is_new : (names : List (List ℕ)) (name : List ℕ) → number_of names name ≡ length names → is_among names name ≡ false
is_new names name last = by_case (is_among names name) (λ t. absurd (omega (arith, number_below names name t, last))) (λ f. f)

pub is_known : (names : List (List ℕ)) (name : List ℕ) → number_of names name ≢ length names → is_among names name ≡ true
is_known names name other = by_case (is_among names name) (λ t. t) (λ f. absurd (other (number_past names name f)))

-- A name that comes: where it is new, a mention comes with it, and where it is known, nothing changes.
module _ (ns new : List (List ℕ)) (name : List ℕ) (ms : List Mention) (with_ : new ≡ with_name ns name) (sized : length ms ≡ length ns) where
  pub new_names : number_of ns name ≡ length ms → new ≡ ns ++ name ∷ []
  new_names last = with_ ∙ ap (λ (b : Bool). cond b ns (ns ++ name ∷ [])) (is_new ns name (last ∙ sized))

  pub known_names : number_of ns name ≢ length ms → new ≡ ns
  known_names other = with_ ∙ ap (λ (b : Bool). cond b ns (ns ++ name ∷ [])) (is_known ns name (λ same. other (same ∙ sym sized)))

  pub new_sized : (more : List Mention) → more ≡ ms ++ no_mention ∷ [] → number_of ns name ≡ length ms → length more ≡ length new
  new_sized more is last =
      rw (is, new_names last, length-append ms (no_mention ∷ []), length-append ns (name ∷ []), sized) refl

  pub new_mention : (more : List Mention) → more ≡ ms ++ no_mention ∷ [] → number_of ns name ≡ length ms → (n : List ℕ) → mention_of new more n ≡ mention_of ns ms n
  new_mention more is last n = rw (is, new_names last) (mention_added ns ms name n sized)

-- what is written of a name stands for it alone
wrote_request : (b : Bool) (m old : Mention) → m.requested ≡ true → (cond b m old).requested ≡ (b || old.requested)
wrote_request true m old is = is
wrote_request false m old is = refl

wrote_definition : (b : Bool) (m old : Mention) → m.defined ≡ true → (cond b m old).defined ≡ (b || old.defined)
wrote_definition true m old is = is
wrote_definition false m old is = refl

kept_request : (b : Bool) (m old : Mention) → (b ≡ true → m.requested ≡ old.requested) → (cond b m old).requested ≡ old.requested
kept_request true m old same = same refl
kept_request false m old same = refl

kept_definition : (b : Bool) (m old : Mention) → (b ≡ true → m.defined ≡ old.defined) → (cond b m old).defined ≡ old.defined
kept_definition true m old same = same refl
kept_definition false m old same = refl

-- A mention that is read or written at the number of a name.
module _ (names : List (List ℕ)) (mentions : List Mention) (name : List ℕ) (i : ℕ) (sized : length mentions ≡ length names) (there : is_among names name ≡ true) (is : i ≡ number_of names name) where
  pub mention_inside : i < length mentions
  mention_inside = omega (arith, sized, is, number_below names name there)

  -- what is read there is the mention of each name that is equal to it
  pub mention_read : (x : Mention) (n : List ℕ) → x ≡ get_or mentions i x → bytes_eq name n ≡ true → x ≡ mention_of names mentions n
  mention_read x n read same =
      read ∙ (get_or_default mentions i x no_mention mention_inside
      ∙ ap (λ (k : ℕ). get_or mentions k no_mention) (is ∙ ap (number_of names) ((bytes_eq-Decides name n).0 same)))

  -- a mark is set in it, and the other one stays
  pub request_noted : (x : Mention) (n : List ℕ) → x ≡ get_or mentions i x →
      (mention_of names (set mentions i (record { requested = true; defined = x.defined })) n).requested ≡ (bytes_eq name n || (mention_of names mentions n).requested)
  request_noted x n read =
      ap (λ (m : Mention). m.requested) (mention_set names mentions name n i (record { requested = true; defined = x.defined }) sized there is)
      ∙ wrote_request (bytes_eq name n) (record { requested = true; defined = x.defined }) (mention_of names mentions n) refl

  pub request_keeps : (x : Mention) (n : List ℕ) → x ≡ get_or mentions i x →
      (mention_of names (set mentions i (record { requested = true; defined = x.defined })) n).defined ≡ (mention_of names mentions n).defined
  request_keeps x n read =
      ap (λ (m : Mention). m.defined) (mention_set names mentions name n i (record { requested = true; defined = x.defined }) sized there is)
      ∙ kept_definition (bytes_eq name n) (record { requested = true; defined = x.defined }) (mention_of names mentions n) (λ same. ap (λ (m : Mention). m.defined) (mention_read x n read same))

  pub definition_noted : (x : Mention) (n : List ℕ) → x ≡ get_or mentions i x →
      (mention_of names (set mentions i (record { requested = x.requested; defined = true })) n).defined ≡ (bytes_eq name n || (mention_of names mentions n).defined)
  definition_noted x n read =
      ap (λ (m : Mention). m.defined) (mention_set names mentions name n i (record { requested = x.requested; defined = true }) sized there is)
      ∙ wrote_definition (bytes_eq name n) (record { requested = x.requested; defined = true }) (mention_of names mentions n) refl

  pub definition_keeps : (x : Mention) (n : List ℕ) → x ≡ get_or mentions i x →
      (mention_of names (set mentions i (record { requested = x.requested; defined = true })) n).requested ≡ (mention_of names mentions n).requested
  definition_keeps x n read =
      ap (λ (m : Mention). m.requested) (mention_set names mentions name n i (record { requested = x.requested; defined = true }) sized there is)
      ∙ kept_request (bytes_eq name n) (record { requested = x.requested; defined = true }) (mention_of names mentions n) (λ same. ap (λ (m : Mention). m.requested) (mention_read x n read same))

-- no names
pub undefined_none : (names : List (List ℕ)) (mentions : List Mention) (n : List ℕ) → mentions ≡ [] → (mention_of names mentions n).defined ≡ false
undefined_none names mentions n none = ap (λ (ms : List Mention). (get_or ms (number_of names n) no_mention).defined) none

pub unasked_none : (names : List (List ℕ)) (mentions : List Mention) (n : List ℕ) → mentions ≡ [] → (mention_of names mentions n).requested ≡ false
unasked_none names mentions n none = ap (λ (ms : List Mention). (get_or ms (number_of names n) no_mention).requested) none
