-- Names as symbols are noted, one after the other.
use Rattle.std.proofs.Common.{◌≡◌, ℕ, suc, ◌+◌, ◌<◌, ◌≤◌, Bool, true, false, not, ◌&&◌, ◌||◌, List, [], length, get_or, drop, Option, refl, sym, ◌∙◌, ap, subst, arith, drop-cons}
use Rattle.std.specs.Prelude.{option_map, unwrap_or}
use Rattle.std.specs.List.{list_any}
use Rattle.std.specs.Str.{bytes_eq}
use Rattle.std.proofs.Math.ListN.{drop_of_length-le}
use Rattle.std.proofs.lemmas.Bool.{and_left, or_parts}
use Rattle.std.proofs.lemmas.Option.{slice_get-get_or}
use Rattle.elf_model.specs.Link.Loading.{has_name, is_definition, is_global_or_weak, is_global_symbol, is_left_undefined, is_request}
use Rattle.elf_model.specs.Inputs.ObjectFile.{name_of_symbol, symbol_name, symbols}
use Rattle.elf_model.specs.declared.records.Symbol.{Symbol}
use Rattle.search.specs.Loaders.{asked_from, defined_from}

pub not_noted : (a : Bool) (t old : Bool) → t ≡ false → old ≡ (a && t || old)
not_noted true t old e = rw e refl
not_noted false t old e = refl

-- one symbol more of a list
pub any_more : {X : Type 0} (p : X → Bool) (xs : List X) (j : ℕ) (d : X) → j < length xs → list_any p (drop j xs) ≡ (p (get_or xs j d) || list_any p (drop (j + 1) xs))
any_more p xs j d within = let e : j + 1 ≡ suc j = omega arith in rw e (ap (list_any p) (drop-cons xs j d within))

-- a LOCAL symbol asks for nothing and defines nothing
pub local_asks : (dropped : List ℕ) (s : Symbol) → is_global_or_weak s ≡ false → is_request dropped s ≡ false
local_asks dropped s local = and_left (is_global_symbol s) (is_left_undefined dropped s) ((or_parts (is_global_symbol s) _ local).0)

pub local_defines : (dropped : List ℕ) (s : Symbol) → is_global_or_weak s ≡ false → is_definition dropped s ≡ false
local_defines dropped s local = and_left (is_global_or_weak s) (not (is_left_undefined dropped s)) local

-- the step of a loop, where the symbol's own test is t
shifted : (first later old total : Bool) → ((first || later) || old) ≡ total → (later || (first || old)) ≡ total
shifted true later old total is = or_true later ∙ is
  where
    or_true : (b : Bool) → (b || true) ≡ true
    or_true true = refl
    or_true false = refl
shifted false later old total is = is

pub stepped : (now first later old new total : Bool) → now ≡ (first || later) → new ≡ (first || old) → (now || old) ≡ total → (later || new) ≡ total
stepped now first later old new total split next is =
    rw next (shifted first later old total (sym (ap (λ (b : Bool). b || old) split) ∙ is))

pub passed : (now a t later old total : Bool) → now ≡ (a && t || later) → t ≡ false → (now || old) ≡ total → (later || old) ≡ total
passed now a t later old total split fails is = stepped now (a && t) later old old total split (not_noted a t old fails) is

-- the last symbol's names are all of them
pub asked_done : (bytes dropped : List ℕ) (n : List ℕ) → asked_from bytes dropped [] n ≡ false
unfolding asked_from
asked_done bytes dropped n = refl

pub defined_done : (bytes dropped : List ℕ) (n : List ℕ) → defined_from bytes dropped [] n ≡ false
unfolding defined_from
defined_done bytes dropped n = refl

-- The step of the loop over symbols, which the code has as items.
module _ (bytes dropped : List ℕ) (items ss : List Symbol) (same : items ≡ ss) (j : ℕ) (d : Symbol) (within : j < length items) where
  inside : j < length ss
  inside = subst (λ (l : List Symbol). j < length l) same within

  pub called_there : (name : List ℕ) → ss ≡ symbols bytes → name ≡ unwrap_or (symbol_name bytes j) [] → name ≡ name_of_symbol bytes (get_or items j d)
  called_there name all is =
      is
      ∙ (ap (λ (o : Option Symbol). unwrap_or (option_map (name_of_symbol bytes) o) []) (slice_get-get_or (symbols bytes) j d (subst (λ (l : List Symbol). j < length l) all inside))
      ∙ ap (λ (l : List Symbol). name_of_symbol bytes (get_or l j d)) (sym (same ∙ all)))

  -- one symbol more of those with a name that pass a test
  any_step : (test : Symbol → Bool) (name n : List ℕ) (old new total : Bool) → name ≡ name_of_symbol bytes (get_or items j d) →
      new ≡ (bytes_eq name n && test (get_or items j d) || old) → (list_any (λ s. has_name bytes n s && test s) (drop j ss) || old) ≡ total →
      (list_any (λ s. has_name bytes n s && test s) (drop (j + 1) ss) || new) ≡ total
  any_step test name n old new total called next is =
      let p : Symbol → Bool = λ s. has_name bytes n s && test s in
      stepped (list_any p (drop j ss)) (p (get_or ss j d)) (list_any p (drop (j + 1) ss)) old new total (any_more p ss j d inside)
      (next ∙ (ap (λ (m : List ℕ). bytes_eq m n && test (get_or items j d) || old) called
      ∙ ap (λ (l : List Symbol). has_name bytes n (get_or l j d) && test (get_or l j d) || old) same)) is

  pub asked_step : (name n : List ℕ) (old new total : Bool) → name ≡ name_of_symbol bytes (get_or items j d) →
      new ≡ (bytes_eq name n && is_request dropped (get_or items j d) || old) → (asked_from bytes dropped (drop j ss) n || old) ≡ total →
      (asked_from bytes dropped (drop (j + 1) ss) n || new) ≡ total
  unfolding asked_from
  asked_step = any_step (is_request dropped)

  pub defined_step : (name n : List ℕ) (old new total : Bool) → name ≡ name_of_symbol bytes (get_or items j d) →
      new ≡ (bytes_eq name n && is_definition dropped (get_or items j d) || old) → (defined_from bytes dropped (drop j ss) n || old) ≡ total →
      (defined_from bytes dropped (drop (j + 1) ss) n || new) ≡ total
  unfolding defined_from
  defined_step = any_step (is_definition dropped)

  local_there : is_global_or_weak (get_or items j d) ≡ false → is_global_or_weak (get_or ss j d) ≡ false
  local_there local = subst (λ (l : List Symbol). is_global_or_weak (get_or l j d) ≡ false) same local

  any_past : (test : Symbol → Bool) (n : List ℕ) (old total : Bool) → test (get_or ss j d) ≡ false →
      (list_any (λ s. has_name bytes n s && test s) (drop j ss) || old) ≡ total → (list_any (λ s. has_name bytes n s && test s) (drop (j + 1) ss) || old) ≡ total
  any_past test n old total fails is =
      let p : Symbol → Bool = λ s. has_name bytes n s && test s in
      passed (list_any p (drop j ss)) (has_name bytes n (get_or ss j d)) (test (get_or ss j d)) (list_any p (drop (j + 1) ss)) old total (any_more p ss j d inside) fails is

  pub asked_past : (n : List ℕ) (old total : Bool) → is_global_or_weak (get_or items j d) ≡ false →
      (asked_from bytes dropped (drop j ss) n || old) ≡ total → (asked_from bytes dropped (drop (j + 1) ss) n || old) ≡ total
  unfolding asked_from
  asked_past n old total local = any_past (is_request dropped) n old total (local_asks dropped (get_or ss j d) (local_there local))

  pub defined_past : (n : List ℕ) (old total : Bool) → is_global_or_weak (get_or items j d) ≡ false →
      (defined_from bytes dropped (drop j ss) n || old) ≡ total → (defined_from bytes dropped (drop (j + 1) ss) n || old) ≡ total
  unfolding defined_from
  defined_past n old total local = any_past (is_definition dropped) n old total (local_defines dropped (get_or ss j d) (local_there local))

-- the end of that loop
pub asked_all : (bytes dropped : List ℕ) (items ss : List Symbol) (j : ℕ) (n : List ℕ) (old total : Bool) → items ≡ ss → length items ≤ j →
    (asked_from bytes dropped (drop j ss) n || old) ≡ total → old ≡ total
unfolding asked_from
asked_all bytes dropped items ss j n old total same past is =
    sym (ap (λ (l : List Symbol). list_any (λ s. has_name bytes n s && is_request dropped s) l || old) (drop_of_length-le ss (subst (λ (l : List Symbol). length l ≤ j) same past))) ∙ is

pub defined_all : (bytes dropped : List ℕ) (items ss : List Symbol) (j : ℕ) (n : List ℕ) (old total : Bool) → items ≡ ss → length items ≤ j →
    (defined_from bytes dropped (drop j ss) n || old) ≡ total → old ≡ total
unfolding defined_from
defined_all bytes dropped items ss j n old total same past is =
    sym (ap (λ (l : List Symbol). list_any (λ s. has_name bytes n s && is_definition dropped s) l || old) (drop_of_length-le ss (subst (λ (l : List Symbol). length l ≤ j) same past))) ∙ is
