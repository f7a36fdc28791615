-- What common symbols ask for, one symbol more; and the blocks of chosen ones, one more.
use Rattle.std.proofs.Common.{◌≡◌, ℕ, ◌+◌, ◌<◌, ◌≤◌, ◌&&◌, Bool, true, false, cond, max, List, [], ◌∷◌, ◌++◌, append_assoc, Option, None, Some, drop, get_or, length, length-append, map, refl, sym, ap, ◌∙◌, arith}
use Rattle.std.specs.Prelude.{filter, not, option_map, slice_get, unwrap_or}
use Rattle.std.specs.Borrow.{Bor}
use Rattle.check_link.specs.declared.chosen_definitions.Chosen.{Chosen}
use Rattle.std.specs.BTreeMap.{BTreeMap, get_by}
use Rattle.std.specs.Cmp.Lexicographic.{slice_cmp}
use Rattle.std.specs.Option.{option_map_or}
use Rattle.std.specs.Ordering.{nat_cmp}
use Rattle.std.specs.Str.{bytes_eq}
use Rattle.std.proofs.lemmas.Bool.{and_parts}
use Rattle.std.proofs.lemmas.List.{append-nil, drop_all, length-map}
use Rattle.std.proofs.lemmas.List.Elements.{filter-append}
use Rattle.std.proofs.lemmas.Option.{none-some}
use Rattle.std.proofs.lemmas.Slice.Eq.{bytes_eq-Decides}
use Rattle.elf_model.proofs.Rests.{rest_at}
use Rattle.elf_model.specs.Link.ChosenSymbols.{definitions, is_chosen, is_definition, is_same_symbol}
use Rattle.elf_model.specs.Link.Commons.{Block, block_of, blocks, blocks_from, greatest, is_common_symbol}
use Rattle.elf_model.specs.Link.Loading.{LoadedObject}
use Rattle.elf_model.specs.Link.Resolution.{SymbolOf, has_name, is_common, is_common_definition, is_global}
use Rattle.check_link.specs.Chosen.{AreChosen, is_found}
use Rattle.check_link.specs.Commons.{HasAsked, asked_in, given_align, given_size, gives, greatest_given, is_block_symbol}
use Rattle.check_link.specs.Views.{block_view, block_views, symbol_view, symbol_views}
use Rattle.check_link.specs.declared.commons.Asked.{Asked}
use Rattle.check_link.specs.declared.things.Block as things
use Rattle.check_link.specs.declared.things.SymbolOf as code
use Rattle.check_link.proofs.Defined.{common_defined, weaker_first}
use Rattle.check_link.proofs.Positions.{drop_there, get_or_some}
use Rattle.check_link.specs.DefinitionList.{if_there, unnamed}

-- the greatest that is given, with one symbol more
given_more :
    (part : SymbolOf → ℕ) (n : List ℕ) (s : SymbolOf) (ss : List SymbolOf) →
    greatest_given part n (s ∷ ss) ≡ max (gives part n s) (greatest_given part n ss)
given_more part n s ss = by (is_common_definition s)
  where
    rest : List SymbolOf
    rest = filter is_common_definition ss

    named : List SymbolOf
    named = filter (has_name n) rest

    of_name : (c : Bool) → greatest (map part (cond c (s ∷ named) named)) ≡ max (cond c (part s) 0) (greatest (map part named))
    of_name true = refl
    of_name false = omega arith

    by :
        (b : Bool) →
        greatest (map part (filter (has_name n) (cond b (s ∷ rest) rest))) ≡ max (cond (b && has_name n s) (part s) 0) (greatest (map part named))
    by true = of_name (has_name n s)
    by false = omega arith

module _ (part : SymbolOf → ℕ) (n : List ℕ) (xs : List code.SymbolOf) (i : ℕ) where
  pub asked_step :
      (d : code.SymbolOf) (a b whole : ℕ) → i < length xs → b ≡ max a (gives part n (symbol_view (get_or xs i d))) →
      max a (greatest_given part n (symbol_views (drop i xs))) ≡ whole → max b (greatest_given part n (symbol_views (drop (i + 1) xs))) ≡ whole
  asked_step d a b whole within more so_far =
      let here = given_more part n (symbol_view (get_or xs i d)) (symbol_views (drop (i + 1) xs)) in
      let split = ap (λ (ys : List code.SymbolOf). greatest_given part n (symbol_views ys)) (rest_at xs i d within) in
      omega (arith, here, split, more, so_far)

  pub asked_end : (a whole : ℕ) → length xs ≤ i → max a (greatest_given part n (symbol_views (drop i xs))) ≡ whole → a ≡ whole
  asked_end a whole behind so_far =
      let none = ap (λ (ys : List code.SymbolOf). greatest_given part n (symbol_views ys)) (drop_all i xs behind) in
      omega (arith, none, so_far)

-- what a table has for each name, once a number came in for one
pub asked_put :
    (part : Asked → ℕ) (old new : BTreeMap (Bor (List ℕ)) Asked) (name n : List ℕ) (v : Asked) (x : ℕ) →
    get_by (λ k. slice_cmp nat_cmp n k.now) new ≡ cond (bytes_eq name n) (Some v) (get_by (λ k. slice_cmp nat_cmp n k.now) old) →
    part v ≡ max (asked_in part old name) x → asked_in part new n ≡ max (asked_in part old n) (cond (bytes_eq name n) x 0)
asked_put part old new name n v x e is = ap (λ (o : Option Asked). unwrap_or (option_map part o) 0) e ∙ by (bytes_eq name n) refl
  where
    by :
        (b : Bool) → bytes_eq name n ≡ b →
        unwrap_or (option_map part (cond b (Some v) (get_by (λ k. slice_cmp nat_cmp n k.now) old))) 0 ≡ max (asked_in part old n) (cond b x 0)
    by true same = is ∙ ap (λ (m : List ℕ). max (asked_in part old m) x) ((bytes_eq-Decides name n).0 same)
    by false same = omega arith

-- The blocks, with one symbol more.
module _ (objects : List LoadedObject) (p : SymbolOf → Bool) (xs : List code.SymbolOf) (i : ℕ) where
  pub blocks_step :
      (d : code.SymbolOf) (wanted : Bool) (old new : List things.Block) (whole : List Block) → i < length xs → wanted ≡ p (symbol_view (get_or xs i d)) →
      block_views new ≡ block_views old ++ blocks_from objects (length old) (cond wanted (symbol_view (get_or xs i d) ∷ []) []) →
      block_views old ++ blocks_from objects (length old) (filter p (symbol_views (drop i xs))) ≡ whole →
      block_views new ++ blocks_from objects (length new) (filter p (symbol_views (drop (i + 1) xs))) ≡ whole
  blocks_step d wanted old new whole within is grown so_far =
      by (p s) (grown ∙ ap (λ (b : Bool). block_views old ++ blocks_from objects (length old) (cond b (s ∷ []) [])) is)
      (sym (ap (λ (ys : List code.SymbolOf). block_views old ++ blocks_from objects (length old) (filter p (symbol_views ys))) (rest_at xs i d within)) ∙ so_far)
    where
      s : SymbolOf
      s = symbol_view (get_or xs i d)

      rest : List SymbolOf
      rest = filter p (symbol_views (drop (i + 1) xs))

      long : (vs : List Block) → block_views new ≡ block_views old ++ vs → length new ≡ length old + length vs
      long vs e =
          let n = length-map new block_view in
          let o = length-map old block_view in
          let both = length-append (block_views old) vs in
          let same = ap (length {A = Block}) e in
          omega (arith, n, o, both, same)

      by :
          (b : Bool) → block_views new ≡ block_views old ++ blocks_from objects (length old) (cond b (s ∷ []) []) →
          block_views old ++ blocks_from objects (length old) (cond b (s ∷ rest) rest) ≡ whole →
          block_views new ++ blocks_from objects (length new) rest ≡ whole
      by true e w =
          ap (λ (k : ℕ). block_views new ++ blocks_from objects k rest) (long (block_of objects (length old) s ∷ []) e)
          ∙ (ap (λ (vs : List Block). vs ++ blocks_from objects (length old + 1) rest) e
          ∙ (append_assoc (block_views old) (block_of objects (length old) s ∷ []) (blocks_from objects (length old + 1) rest) ∙ w))
      by false e w =
          let same : length new ≡ length old = let l = long [] e in omega (arith, l) in
          ap (λ (k : ℕ). block_views new ++ blocks_from objects k rest) same
          ∙ (ap (λ (vs : List Block). vs ++ blocks_from objects (length old) rest) (e ∙ append-nil (block_views old)) ∙ w)

  pub blocks_end :
      (found : List things.Block) (whole : List Block) → length xs ≤ i →
      block_views found ++ blocks_from objects (length found) (filter p (symbol_views (drop i xs))) ≡ whole → block_views found ≡ whole
  blocks_end found whole behind so_far =
      sym (append-nil (block_views found))
      ∙ (sym (ap (λ (ys : List code.SymbolOf). block_views found ++ blocks_from objects (length found) (filter p (symbol_views ys))) (drop_all i xs behind)) ∙ so_far)

-- The blocks of those definitions that an index of the chosen ones has are the objects' blocks.
kept_twice : {X : Type 0} (p q : X → Bool) (xs : List X) → filter (λ x. p x && q x) xs ≡ filter p (filter q xs)
kept_twice p q [] = refl
kept_twice {X} p q (x ∷ xs) = by (p x) (q x) refl (kept_twice p q xs)
  where
    both : List X
    both = filter (λ y. p y && q y) xs

    kept : List X
    kept = filter p (filter q xs)

    by : (a b : Bool) → p x ≡ a → both ≡ kept → cond (a && b) (x ∷ both) both ≡ filter p (cond b (x ∷ filter q xs) (filter q xs))
    by true true e rest = ap (λ (ys : List X). x ∷ ys) rest ∙ sym (ap (λ (t : Bool). cond t (x ∷ kept) kept) e)
    by false true e rest = rest ∙ sym (ap (λ (t : Bool). cond t (x ∷ kept) kept) e)
    by true false e rest = rest
    by false false e rest = rest

-- a common definition is a common symbol
common_common : (s : SymbolOf) → is_common_definition s ≡ true → is_common_symbol s ≡ true
common_common s e = (and_parts (is_common s.entry) (not s.dropped) (and_parts (is_global s.entry) (is_common s.entry && not s.dropped) e).1).0

pub blocks_chosen :
    (objects : List LoadedObject) (chosen : Chosen) (ss commons : List SymbolOf) → AreChosen objects ss chosen →
    ss ≡ definitions objects → commons ≡ filter is_common_symbol ss → blocks_from objects 0 (filter (is_block_symbol chosen ss) commons) ≡ blocks objects
blocks_chosen objects chosen ss commons are is among =
    let same : is_found chosen ss ≡ is_chosen objects = λ i s. ap (λ (o : Option SymbolOf). option_map_or (is_same_symbol s) o false) (are s.name) i in
    ap (λ (ts : List SymbolOf). blocks_from objects 0 ts)
    (ap (filter (is_block_symbol chosen ss)) among
    ∙ weaker_first (is_block_symbol chosen ss) is_common_symbol (λ s e. (and_parts (is_common_symbol s) (is_found chosen ss s) e).0) ss
    ∙ kept_twice is_common_symbol (is_found chosen ss) ss
    ∙ ap (λ (p : SymbolOf → Bool). filter is_common_symbol (filter p ss)) same
    ∙ ap (λ (ts : List SymbolOf). filter is_common_symbol (filter (is_chosen objects) ts)) is)

-- what the common ones among the definitions ask for, all symbols do
pub asked_of_all :
    (asked : BTreeMap (Bor (List ℕ)) Asked) (commons ss all : List SymbolOf) → commons ≡ filter is_common_symbol ss → ss ≡ filter is_definition all →
    HasAsked asked commons → HasAsked asked all
asked_of_all asked commons ss all among is has =
    let same : filter is_common_definition commons ≡ filter is_common_definition all =
    ap (filter is_common_definition) among
    ∙ (weaker_first is_common_definition is_common_symbol common_common ss
    ∙ (ap (filter is_common_definition) is ∙ common_defined all)) in
    record {
      sizes = λ n. has.sizes n ∙ ap (λ (ts : List SymbolOf). greatest (map given_size (filter (has_name n) ts))) same;
      aligns = λ n. has.aligns n ∙ ap (λ (ts : List SymbolOf). greatest (map given_align (filter (has_name n) ts))) same;
    }

-- The common ones, with the one at a position more.
pub kept_step :
    (p : SymbolOf → Bool) (xs : List SymbolOf) (i : ℕ) (old new whole : List SymbolOf) → i < length xs →
    new ≡ old ++ filter p (if_there (slice_get xs i)) → old ++ filter p (drop i xs) ≡ whole → new ++ filter p (drop (i + 1) xs) ≡ whole
kept_step p xs i old new whole within grown so_far = by (slice_get xs i) refl grown
  where
    by : (o : Option SymbolOf) → slice_get xs i ≡ o → new ≡ old ++ filter p (if_there o) → new ++ filter p (drop (i + 1) xs) ≡ whole
    by None e g = absurd (let some = get_or_some xs i within in none-some some.0 (sym e ∙ some.1))
    by (Some s) e g =
        ap (λ (ys : List SymbolOf). ys ++ filter p (drop (i + 1) xs)) g
        ∙ (append_assoc old (filter p (s ∷ [])) (filter p (drop (i + 1) xs))
        ∙ (ap (λ (ys : List SymbolOf). old ++ ys) (sym (filter-append p (s ∷ []) (drop (i + 1) xs)))
        ∙ (ap (λ (ys : List SymbolOf). old ++ filter p ys) (sym (drop_there xs i s e)) ∙ so_far)))

-- what is tested without its name, and then read
pub if_common :
    (o : Option SymbolOf) (p : Option SymbolOf) → p ≡ option_map unnamed o → option_map_or is_common_symbol p false ≡ option_map_or is_common_symbol o false
if_common None p is = ap (λ (x : Option SymbolOf). option_map_or is_common_symbol x false) is
if_common (Some s) p is = ap (λ (x : Option SymbolOf). option_map_or is_common_symbol x false) is

pub kept_one : (o : Option SymbolOf) (b : Bool) → b ≡ option_map_or is_common_symbol o false → if_there (cond b o None) ≡ filter is_common_symbol (if_there o)
kept_one None true is = refl
kept_one None false is = refl
kept_one (Some s) b is = by b is
  where
    none : List SymbolOf
    none = []

    by : (b : Bool) → b ≡ is_common_symbol s → if_there (cond b (Some s) None) ≡ cond (is_common_symbol s) (s ∷ none) none
    by true e = ap (λ (t : Bool). cond t (s ∷ none) none) e
    by false e = ap (λ (t : Bool). cond t (s ∷ none) none) e
