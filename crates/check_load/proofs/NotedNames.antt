-- Names as symbols are noted, one after the other.
use Rattle.std.proofs.Common.{◌≡◌, cond, ℕ, suc, ◌+◌, ◌<◌, ◌≤◌, Bool, true, false, ◌&&◌, ◌||◌, List, [], ◌∷◌, ◌++◌, length, get_or, drop, Some, None, Option, refl, sym, ◌∙◌, ap, subst, arith, drop-cons}
use Rattle.std.specs.Prelude.{set, slice_get, unwrap_or}
use Rattle.std.proofs.lemmas.Option.{get_or_from_slice_get, unwrap_or-slice_get}
use Rattle.std.specs.List.{list_any}
use Rattle.std.specs.Str.{bytes_eq}
use Rattle.std.proofs.Math.ListN.{drop_of_length-le}
use Rattle.std.proofs.lemmas.List.{get_or_default}
use Rattle.std.proofs.lemmas.Slice.Eq.{bytes_eq-Decides}
use Rattle.elf_model.specs.Link.Loading.{has_name, is_definition, is_request}
use Rattle.elf_model.specs.declared.records.Symbol.{Symbol}
use Rattle.check_load.specs.NameNumbers.{number_of, with_name}
use Rattle.check_load.specs.Names.{Names, asked_from, defined_from, defines_name, requests_name, state_at, unknown}
use Rattle.check_load.specs.declared.known_names.NameState.{NameState}
use Rattle.check_load.proofs.Numbering.{none_behind, value_written}

-- A name comes among names, of which some have states, and its state takes in what is said of it, which is t by a field
-- of the state.
module _ (names later : List (List ℕ)) (states reached written : List NameState) (name : List ℕ) (i : ℕ) (old new : NameState)
    (sized : length states ≤ length names) (comes : later ≡ with_name names name) (is : i ≡ number_of names name)
    (same : (k : ℕ) → state_at reached k ≡ state_at states k) (there : i < length reached) (read : old ≡ get_or reached i old) (put : written ≡ set reached i new) where
  -- the state that is read is that of the name
  pub read_state : old ≡ state_at states (number_of names name)
  read_state = read ∙ (get_or_default reached i old unknown there ∙ (same i ∙ ap (state_at states) is))

  state_put : (n : List ℕ) → state_at written (number_of later n) ≡ cond (bytes_eq name n) new (state_at states (number_of names n))
  state_put n = ap (λ (l : List NameState). state_at l (number_of later n)) put ∙ value_written unknown names later states reached name i new sized comes is same there n

  -- what a field says of a name later
  pub field_put : (field : NameState → Bool) (t : Bool) → field new ≡ (t || field old) → (n : List ℕ) →
      field (state_at written (number_of later n)) ≡ (bytes_eq name n && t || field (state_at states (number_of names n)))
  field_put field t said n = ap field (state_put n) ∙ by (bytes_eq name n) refl
    where
      by : (b : Bool) → bytes_eq name n ≡ b → field (cond b new (state_at states (number_of names n))) ≡ (b && t || field (state_at states (number_of names n)))
      by true e = said ∙ ap (λ (s : NameState). t || field s) (read_state ∙ ap (λ (m : List ℕ). state_at states (number_of names m)) ((bytes_eq-Decides name n).0 e))
      by false e = refl

-- nothing is known of names where none is noted
pub none_requested : (names : Names) → names.states ≡ [] → (n : List ℕ) → requests_name names n ≡ false
unfolding requests_name
none_requested names none n = ap (λ (l : List NameState). (state_at l (number_of names.names n)).requested) none

pub none_defined : (names : Names) → names.states ≡ [] → (n : List ℕ) → defines_name names n ≡ false
unfolding defines_name
none_defined names none n = ap (λ (l : List NameState). (state_at l (number_of names.names n)).defined) none

-- a state behind states that says nothing
pub reached_more : (states : List NameState) (i : ℕ) → state_at (states ++ unknown ∷ []) i ≡ state_at states i
reached_more states i = none_behind unknown states i

-- one symbol more of a list
pub any_more : {X : Type 0} (p : X → Bool) (xs : List X) (j : ℕ) (d : X) → j < length xs → list_any p (drop j xs) ≡ (p (get_or xs j d) || list_any p (drop (j + 1) xs))
any_more p xs j d within = let e : j + 1 ≡ suc j = omega arith in rw e (ap (list_any p) (drop-cons xs j d within))

pub asked_more : (bytes dropped : List ℕ) (ss : List Symbol) (j : ℕ) (d : Symbol) (n : List ℕ) → j < length ss →
    asked_from bytes dropped (drop j ss) n ≡ (has_name bytes n (get_or ss j d) && is_request dropped (get_or ss j d) || asked_from bytes dropped (drop (j + 1) ss) n)
unfolding asked_from
asked_more bytes dropped ss j d n within = any_more (λ s. has_name bytes n s && is_request dropped s) ss j d within

pub defined_more : (bytes dropped : List ℕ) (ss : List Symbol) (j : ℕ) (d : Symbol) (n : List ℕ) → j < length ss →
    defined_from bytes dropped (drop j ss) n ≡ (has_name bytes n (get_or ss j d) && is_definition dropped (get_or ss j d) || defined_from bytes dropped (drop (j + 1) ss) n)
unfolding defined_from
defined_more bytes dropped ss j d n within = any_more (λ s. has_name bytes n s && is_definition dropped s) ss j d within

-- the step of a loop, where the symbol's own test is t
shifted : (first later old total : Bool) → ((first || later) || old) ≡ total → (later || (first || old)) ≡ total
shifted true later old total is = or_true later ∙ is
  where
    or_true : (b : Bool) → (b || true) ≡ true
    or_true true = refl
    or_true false = refl
shifted false later old total is = is

pub stepped : (now first later old new total : Bool) → now ≡ (first || later) → new ≡ (first || old) → (now || old) ≡ total → (later || new) ≡ total
stepped now first later old new total split next is =
    rw next (shifted first later old total (sym (ap (λ (b : Bool). b || old) split) ∙ is))

-- The step of the loop over symbols, which the code has as items.
module _ (bytes dropped : List ℕ) (items ss : List Symbol) (same : items ≡ ss) (j : ℕ) (d : Symbol) (within : j < length items) where
  inside : j < length ss
  inside = subst (λ (l : List Symbol). j < length l) same within

  pub asked_step : (n : List ℕ) (old new total : Bool) → new ≡ (has_name bytes n (get_or items j d) && is_request dropped (get_or items j d) || old) →
      (asked_from bytes dropped (drop j ss) n || old) ≡ total → (asked_from bytes dropped (drop (j + 1) ss) n || new) ≡ total
  asked_step n old new total next is =
      stepped (asked_from bytes dropped (drop j ss) n) (has_name bytes n (get_or ss j d) && is_request dropped (get_or ss j d))
      (asked_from bytes dropped (drop (j + 1) ss) n) old new total (asked_more bytes dropped ss j d n inside)
      (next ∙ ap (λ (l : List Symbol). has_name bytes n (get_or l j d) && is_request dropped (get_or l j d) || old) same) is

  pub defined_step : (n : List ℕ) (old new total : Bool) → new ≡ (has_name bytes n (get_or items j d) && is_definition dropped (get_or items j d) || old) →
      (defined_from bytes dropped (drop j ss) n || old) ≡ total → (defined_from bytes dropped (drop (j + 1) ss) n || new) ≡ total
  defined_step n old new total next is =
      stepped (defined_from bytes dropped (drop j ss) n) (has_name bytes n (get_or ss j d) && is_definition dropped (get_or ss j d))
      (defined_from bytes dropped (drop (j + 1) ss) n) old new total (defined_more bytes dropped ss j d n inside)
      (next ∙ ap (λ (l : List Symbol). has_name bytes n (get_or l j d) && is_definition dropped (get_or l j d) || old) same) is

-- the end of that loop
pub asked_all : (bytes dropped : List ℕ) (items ss : List Symbol) (j : ℕ) (n : List ℕ) (old total : Bool) → items ≡ ss → length items ≤ j →
    (asked_from bytes dropped (drop j ss) n || old) ≡ total → old ≡ total
unfolding asked_from
asked_all bytes dropped items ss j n old total same past is =
    sym (ap (λ (l : List Symbol). list_any (λ s. has_name bytes n s && is_request dropped s) l || old) (drop_of_length-le ss (subst (λ (l : List Symbol). length l ≤ j) same past))) ∙ is

pub defined_all : (bytes dropped : List ℕ) (items ss : List Symbol) (j : ℕ) (n : List ℕ) (old total : Bool) → items ≡ ss → length items ≤ j →
    (defined_from bytes dropped (drop j ss) n || old) ≡ total → old ≡ total
unfolding defined_from
defined_all bytes dropped items ss j n old total same past is =
    sym (ap (λ (l : List Symbol). list_any (λ s. has_name bytes n s && is_definition dropped s) l || old) (drop_of_length-le ss (subst (λ (l : List Symbol). length l ≤ j) same past))) ∙ is

-- the first name that a command asks for
pub root_first : (l e new none : Bool) → new ≡ (e && true || none) → none ≡ false → (l || new) ≡ (e || l)
root_first l e new none is empty = (λ j. l || is j) ∙ ((λ j. l || (e && true || empty j)) ∙ by l e)
  where
    by : (a b : Bool) → (a || (b && true || false)) ≡ (b || a)
    by true true = refl
    by true false = refl
    by false true = refl
    by false false = refl

pub not_defined : (e new none : Bool) → new ≡ (e && false || none) → none ≡ false → new ≡ false
not_defined e new none is empty = is ∙ ((λ j. e && false || empty j) ∙ by e)
  where
    by : (b : Bool) → (b && false || false) ≡ false
    by true = refl
    by false = refl

-- the state of a name by a search of the states
pub state_found : (names : Names) (name : List ℕ) (state : NameState) → Some state ≡ slice_get names.states (number_of names.names name) → state ≡ state_at names.states (number_of names.names name)
state_found names name state is = sym (get_or_from_slice_get names.states (number_of names.names name) state unknown (sym is))

pub state_missed : (names : Names) (name : List ℕ) → None ≡ slice_get names.states (number_of names.names name) → unknown ≡ state_at names.states (number_of names.names name)
state_missed names name is = ap (λ (o : Option NameState). unwrap_or o unknown) is ∙ unwrap_or-slice_get names.states (number_of names.names name) unknown
