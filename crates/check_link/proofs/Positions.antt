-- The positions of the chosen definitions in the list of all.
use Rattle.std.proofs.Common.{◌≡◌, ℕ, zero, suc, ◌+◌, ◌<◌, ◌≤◌, ◌⊎◌, inl, inr, Bool, true, false, cond, List, [], ◌∷◌, ◌++◌, append_assoc, drop, get_or, length, length-append, replicate, set, true≢false, Option, Some, None, refl, sym, ap, subst, ◌∙◌, arith}
use Rattle.std.specs.Prelude.{◌&&◌, find, option_map, slice_get, unwrap_or}
use Rattle.std.specs.Option.{option_and_then, option_map_or, option_or}
use Rattle.std.specs.Str.{bytes_eq}
use Rattle.std.proofs.lemmas.List.{get_or_default, get_or_past, get_or-replicate, get_or-set_other, get_or-set_same, length-replicate}
use Rattle.std.proofs.lemmas.Option.{get_or_from_slice_get, none-some, same_Some, slice_get_within}
use Rattle.std.proofs.lemmas.Slice.Eq.{bytes_eq-Decides}
use Rattle.elf_model.specs.Link.ChosenSymbols.{definitions}
use Rattle.elf_model.specs.Link.Loading.{LoadedObject}
use Rattle.elf_model.specs.Link.Resolution.{SymbolOf, has_name}
use Rattle.check_link.specs.Chosen.{AreChosen, AreOwnChoices, AreOwnIn, IsOwn, IsSized, definition_in, first_from, is_of_rank, marked_by, position_at, position_in}
use Rattle.check_link.specs.DefinitionList.{name_in, unnamed}
use Rattle.check_link.proofs.Padded.{below_or_not}
use Rattle.check_link.specs.declared.chosen_definitions.Chosen.{Chosen}
use Rattle.check_link.specs.declared.chosen_definitions.Rank.{Rank}
use Rattle.check_link.specs.declared.chosen_definitions.Rank.TheVariants as rank
use Rattle.elf_model.proofs.Rests.{rest_at}
use Rattle.check_load.specs.NameNumbers.{number_of, with_name}
use Rattle.check_load.proofs.Numbering.{value_written}
use Rattle.elf_model.proofs.Found.{or_none}

still : (old more new : Option ℕ) (p : ℕ) → new ≡ option_or old more → old ≡ Some p → new ≡ Some p
still old more new p is was = is ∙ ap (λ (o : Option ℕ). option_or o more) was

-- A position comes into an index, unless one of its name is there.
module _ (before : Chosen) (later : List (List ℕ)) (reached written : List (Option ℕ)) (name : List ℕ) (i : ℕ) (old new : Option ℕ) (position : ℕ)
    (sized : IsSized before) (comes : later ≡ with_name before.names name) (is : i ≡ number_of before.names name)
    (same : (k : ℕ) → position_at reached k ≡ position_at before.positions.items k) (there : i < length reached) (read : old ≡ get_or reached i old)
    (put : written ≡ set reached i new) (taken : new ≡ option_or old (Some position)) where
  read_position : old ≡ position_in before name
  read_position = read ∙ (get_or_default reached i old None there ∙ (same i ∙ ap (position_at before.positions.items) is))

  -- what it has later for a name
  abbrev later_of : List ℕ → Option ℕ
  later_of n = position_at written (number_of later n)

  pub position_put : (n : List ℕ) → position_at written (number_of later n) ≡ option_or (position_in before n) (cond (bytes_eq name n) (Some position) None)
  position_put n =
      ap (λ (l : List (Option ℕ)). position_at l (number_of later n)) put
      ∙ value_written None before.names later before.positions.items reached name i new sized comes is same there n
      ∙ by (bytes_eq name n) refl
    where
      by : (b : Bool) → bytes_eq name n ≡ b → cond b new (position_in before n) ≡ option_or (position_in before n) (cond b (Some position) None)
      by true e = taken ∙ ap (λ (o : Option ℕ). option_or o (Some position)) (read_position ∙ ap (position_in before) ((bytes_eq-Decides name n).0 e))
      by false e = sym (or_none (position_in before n))

  kept_for : (p : ℕ) (s : SymbolOf) → position_in before s.name ≡ Some p → later_of s.name ≡ Some p
  kept_for p s was = still (position_in before s.name) _ (later_of s.name) p (position_put s.name) was

  put_first : old ≡ None → later_of name ≡ Some position
  put_first none =
      position_put name
      ∙ ap (λ (o : Option ℕ). option_or o (cond (bytes_eq name name) (Some position) None)) (sym read_position ∙ none)
      ∙ ap (λ (b : Bool). option_or None (cond b (Some position) None)) ((bytes_eq-Decides name name).1 refl)

  pub own_put :
      (ss : List SymbolOf) → ((s : SymbolOf) → slice_get ss position ≡ Some s → s.name ≡ name) → IsOwn ss before →
      (n p : ℕ) (s : SymbolOf) → position_at written n ≡ Some p → slice_get ss p ≡ Some s → position_at written (number_of later s.name) ≡ Some p
  own_put ss named own n p s at found = by (below_or_not n i) (below_or_not i n)
    where
      stored : position_at (set reached i new) n ≡ Some p
      stored = sym (ap (λ (l : List (Option ℕ)). position_at l n) put) ∙ at

      other : (n ≡ i → ⊥) → later_of s.name ≡ Some p
      other apart = kept_for p s (own n p s (sym (same n) ∙ (sym (get_or-set_other reached i n new None apart) ∙ stored)) found)

      first : old ≡ None → position ≡ p → later_of s.name ≡ Some p
      first none last = ap later_of (named s (ap (slice_get ss) last ∙ found)) ∙ put_first none ∙ ap Some last

      here : (o : Option ℕ) → old ≡ o → option_or o (Some position) ≡ Some p → later_of s.name ≡ Some p
      here (Some q) e f = kept_for p s (own (number_of before.names name) p s (sym read_position ∙ (e ∙ f)) found)
      here None e f = first e (same_Some position p f)

      at_i : n ≡ i → later_of s.name ≡ Some p
      at_i e =
          here old refl
          (sym taken ∙ (sym (get_or-set_same reached i new None there) ∙ (ap (position_at (set reached i new)) (sym e) ∙ stored)))

      by : (n < i) ⊎ (i ≤ n) → (i < n) ⊎ (n ≤ i) → later_of s.name ≡ Some p
      by (inl low) either = other (λ e. omega (arith, low, e))
      by (inr past) (inl low) = other (λ e. omega (arith, low, e))
      by (inr past) (inr behind) = at_i (omega (arith, past, behind))

-- what stands behind the front of a list
behind : (front : List SymbolOf) (s : SymbolOf) (ss : List SymbolOf) → slice_get (front ++ s ∷ ss) (length front) ≡ Some s
behind [] s ss = refl
behind (x ∷ xs) s ss = behind xs s ss

-- the definition at the first position that passes a test, or else at another one
found_at :
    (test : SymbolOf → Bool) (all front ss : List SymbolOf) (k : ℕ) (o : Option ℕ) → all ≡ front ++ ss → k ≡ length front →
    option_and_then (slice_get all) (option_or (first_from test k ss) o) ≡ option_or (find test ss) (option_and_then (slice_get all) o)
found_at test all front [] k o is at = refl
found_at test all front (s ∷ ss) k o is at =
    let long = length-append front (s ∷ []) in
    by (test s) (found_at test all (front ++ s ∷ []) ss (k + 1) o (is ∙ sym (append_assoc front (s ∷ []) ss)) (omega (arith, long, at)))
  where
    here : slice_get all k ≡ Some s
    here = ap (λ (ts : List SymbolOf). slice_get ts k) is ∙ ap (λ (n : ℕ). slice_get (front ++ s ∷ ss) n) at ∙ behind front s ss

    by :
        (b : Bool) →
        option_and_then (slice_get all) (option_or (first_from test (k + 1) ss) o) ≡ option_or (find test ss) (option_and_then (slice_get all) o) →
        option_and_then (slice_get all) (option_or (cond b (Some k) (first_from test (k + 1) ss)) o)
        ≡ option_or (cond b (Some s) (find test ss)) (option_and_then (slice_get all) o)
    by true rest = here
    by false rest = rest

-- the same for a whole list
pub first_found :
    (test : SymbolOf → Bool) (all : List SymbolOf) (o : Option ℕ) →
    option_and_then (slice_get all) (option_or (first_from test 0 all) o) ≡ option_or (find test all) (option_and_then (slice_get all) o)
first_found test all o = found_at test all [] all 0 o refl refl

-- Marks of such definitions.
pub own_none : (ss : List SymbolOf) (index : Chosen) (own : List Bool) (n : ℕ) → own ≡ replicate n false → AreOwnIn ss index own
own_none ss index own n are i s mark there =
    absurd (true≢false (sym mark ∙ ap (λ (l : List Bool). get_or l i false) are ∙ by (below_or_not i n)))
  where
    by : (i < n) ⊎ (n ≤ i) → get_or (replicate n false) i false ≡ false
    by (inl low) = get_or-replicate n i false false low
    by (inr past) =
        let long = length-replicate n false in
        get_or_past (replicate n false) i false (omega (arith, past, long))

pub own_marked :
    (ss : List SymbolOf) (index : Chosen) (own new : List Bool) (k p : ℕ) → IsOwn ss index → AreOwnIn ss index own → position_at index.positions.items k ≡ Some p →
    new ≡ set own p true → AreOwnIn ss index new
own_marked ss index own new k p is are at put i s mark there = by (below_or_not i p) (below_or_not p i)
  where
    marked : get_or (set own p true) i false ≡ true
    marked = sym (ap (λ (l : List Bool). get_or l i false) put) ∙ mark

    other : (i ≡ p → ⊥) → definition_in index ss s.name ≡ Some s
    other apart = are i s (sym (get_or-set_other own p i true false apart) ∙ marked) there

    by : (i < p) ⊎ (p ≤ i) → (p < i) ⊎ (i ≤ p) → definition_in index ss s.name ≡ Some s
    by (inl low) either = other (λ e. absurd (omega (arith, low, e)))
    by (inr past) (inl low) = other (λ e. absurd (omega (arith, low, e)))
    by (inr past) (inr behind) =
        let same : i ≡ p = omega (arith, past, behind) in
        let here : slice_get ss p ≡ Some s = ap (slice_get ss) (sym same) ∙ there in
        ap (option_and_then (slice_get ss)) (is k p s at here) ∙ here

-- a position more, where there is one
pub own_marked_by :
    (ss : List SymbolOf) (index : Chosen) (own new : List Bool) (k : ℕ) (o : Option ℕ) → IsOwn ss index → AreOwnIn ss index own → position_at index.positions.items k ≡ o →
    new ≡ marked_by own o → AreOwnIn ss index new
own_marked_by ss index own new k None is are at put = subst (AreOwnIn ss index) (sym put) are
own_marked_by ss index own new k (Some p) is are at put = own_marked ss index own new k p is are at put

pub own_told :
    (objects L : List LoadedObject) (ss : List SymbolOf) (index : Chosen) (own : List Bool) → AreChosen objects ss index → objects ≡ L → ss ≡ definitions objects →
    AreOwnIn ss index own → AreOwnChoices L (definitions L) own
own_told objects L ss index own chosen_are same are is =
    subst (λ (os : List LoadedObject). AreOwnChoices os (definitions os) own) same
    (λ i s mark there.
    sym (chosen_are s.name)
    ∙ is i s (get_or_from_slice_get own i true false mark) (ap (λ (ts : List SymbolOf). slice_get ts i) are ∙ there))

-- the one at a position has its name
pub named_there : (ss : List SymbolOf) (i : ℕ) (s : SymbolOf) → slice_get ss i ≡ Some s → s.name ≡ name_in ss i
named_there ss i s at = sym (ap (λ (o : Option SymbolOf). unwrap_or (option_map (λ (x : SymbolOf). x.name) o) []) at)

-- a test of the one at a position
pub tested_there : (kind : SymbolOf → Bool) (ss : List SymbolOf) (i : ℕ) (s : SymbolOf) → slice_get ss i ≡ Some s → option_map_or kind (slice_get ss i) false ≡ kind s
tested_there kind ss i s at = ap (λ (o : Option SymbolOf). option_map_or kind o false) at

-- what is of a rank is so without its name
pub ranked_unnamed : (r : Rank) (s : SymbolOf) → is_of_rank r (unnamed s) ≡ is_of_rank r s
ranked_unnamed rank.Strong s = refl
ranked_unnamed rank.Common s = refl
ranked_unnamed rank.Weak s = refl

pub rank_there : (r : Rank) (o p : Option SymbolOf) → p ≡ option_map unnamed o → option_map_or (is_of_rank r) p false ≡ option_map_or (is_of_rank r) o false
rank_there r None p is = ap (λ (x : Option SymbolOf). option_map_or (is_of_rank r) x false) is
rank_there r (Some s) p is = ap (λ (x : Option SymbolOf). option_map_or (is_of_rank r) x false) is ∙ ranked_unnamed r s

-- there is one within a list
pub get_or_some : (xs : List SymbolOf) (i : ℕ) → i < length xs → (s : SymbolOf) × (slice_get xs i ≡ Some s)
get_or_some [] i low = absurd (omega (arith, low))
get_or_some (x ∷ xs) zero low = (x, refl)
get_or_some (x ∷ xs) (suc i) low = get_or_some xs i (omega (arith, low))

-- One definition more in an index.
pub drop_there : (xs : List SymbolOf) (i : ℕ) (s : SymbolOf) → slice_get xs i ≡ Some s → drop i xs ≡ s ∷ drop (i + 1) xs
drop_there xs i s at =
    rest_at xs i s (slice_get_within xs i s at) ∙ ap (λ (x : SymbolOf). x ∷ drop (i + 1) xs) (get_or_from_slice_get xs i s s at)

pub position_step :
    (kind : SymbolOf → Bool) (name : List ℕ) (xs : List SymbolOf) (i : ℕ) (wanted : Bool) (old new whole : Option ℕ) → i < length xs →
    wanted ≡ option_map_or kind (slice_get xs i) false →
    new ≡ option_or old (cond (wanted && bytes_eq (name_in xs i) name) (Some i) None) →
    option_or old (first_from (λ s. kind s && has_name name s) i (drop i xs)) ≡ whole →
    option_or new (first_from (λ s. kind s && has_name name s) (i + 1) (drop (i + 1) xs)) ≡ whole
position_step kind name xs i wanted old new whole within is grown all = with_one (slice_get xs i) refl
  where
    rest : Option ℕ
    rest = first_from (λ s. kind s && has_name name s) (i + 1) (drop (i + 1) xs)

    by : (o : Option ℕ) (b : Bool) → new ≡ option_or o (cond b (Some i) None) → option_or o (cond b (Some i) rest) ≡ whole → option_or new rest ≡ whole
    by (Some x) b g a = ap (λ (n : Option ℕ). option_or n rest) g ∙ a
    by None true g a = ap (λ (n : Option ℕ). option_or n rest) g ∙ a
    by None false g a = ap (λ (n : Option ℕ). option_or n rest) g ∙ a

    with_one : (o : Option SymbolOf) → slice_get xs i ≡ o → option_or new rest ≡ whole
    with_one None e = absurd (none-some (get_or_some xs i within).0 (sym e ∙ (get_or_some xs i within).1))
    with_one (Some s) e =
        by old (kind s && has_name name s)
        (grown
        ∙ ap (λ (b : Bool). option_or old (cond (b && bytes_eq (name_in xs i) name) (Some i) None)) (is ∙ tested_there kind xs i s e)
        ∙ ap (λ (n : List ℕ). option_or old (cond (kind s && bytes_eq n name) (Some i) None)) (sym (named_there xs i s e)))
        (sym (ap (λ (ys : List SymbolOf). option_or old (first_from (λ t. kind t && has_name name t) i ys)) (drop_there xs i s e)) ∙ all)

-- where one that isn't of the kind is passed over
pub position_skip :
    (kind : SymbolOf → Bool) (name : List ℕ) (xs : List SymbolOf) (i : ℕ) (old whole : Option ℕ) → i < length xs →
    option_map_or kind (slice_get xs i) false ≡ false →
    option_or old (first_from (λ s. kind s && has_name name s) i (drop i xs)) ≡ whole →
    option_or old (first_from (λ s. kind s && has_name name s) (i + 1) (drop (i + 1) xs)) ≡ whole
position_skip kind name xs i old whole within is all = position_step kind name xs i false old old whole within (sym is) (same old) all
  where
    same : (o : Option ℕ) → o ≡ option_or o None
    same (Some x) = refl
    same None = refl
