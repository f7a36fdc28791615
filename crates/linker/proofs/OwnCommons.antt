-- The lines of the common blocks among what names mean: those of all blocks, name by name, and in order.
use Rattle.std.proofs.Common.{◌≡◌, ◌∙◌, ℕ, ◌+◌, ◌≤◌, map, Bool, true, false, cond, ◌||◌, List, [], ◌∷◌, Option, None, Some, refl, sym, ap, arith}
use Rattle.std.specs.Prelude.{All, AllPairs, count_by, find, is_some, option_map}
use Rattle.std.specs.Option.{option_and_then, option_or}
use Rattle.std.specs.Str.{bytes_eq}
use Rattle.std.proofs.lemmas.Bool.{false≢true}
use Rattle.std.proofs.lemmas.List.Elements.{All-cons, All-contains, All-head, All-nil, All-tail}
use Rattle.std.proofs.lemmas.List.Kept.{AllPairs-cons}
use Rattle.std.proofs.lemmas.Option.{same_Some}
use Rattle.std.proofs.lemmas.Slice.Eq.{bytes_eq-Decides}
use Rattle.elf_model.specs.Link.ChosenSymbols.{chosen_symbols}
use Rattle.elf_model.specs.Link.Commons.{Block, block_named, block_symbols, is_common_symbol}
use Rattle.elf_model.specs.Own.ImageFile.{HasOwnCommonLine, common_row_of}
use Rattle.elf_model.specs.Link.LinkerNames.{bound_of}
use Rattle.elf_model.specs.Link.Listing.{AreListed, has_meaning, is_used, listed}
use Rattle.elf_model.specs.Link.Loading.{LoadedObject}
use Rattle.elf_model.specs.Image.MapRecord.{CommonRow, SymbolRow}
use Rattle.elf_model.specs.Image.MapText.{Ascends, CommonBefore, NameBefore, SymbolBefore}
use Rattle.elf_model.specs.Link.Meaning.{Common, Linker, Meaning, Symbol, meaning_name, meant}
use Rattle.elf_model.specs.Link.Placement.{Where, is_common_row_of}
use Rattle.elf_model.specs.Link.Resolution.{SymbolOf, chosen, has_name}
use Rattle.elf_model.specs.Image.RightLink.{symbol_row_of}
use Rattle.elf_model.specs.declared.bound.Bound.{Bound}
use Rattle.elf_model.proofs.Blocks.{block_named-some}
use Rattle.elf_model.proofs.ChosenSymbols.{chosen_listed, chosen_once}
use Rattle.elf_model.proofs.Finding.{find-found}
use Rattle.elf_model.proofs.Found.{none_found}
use Rattle.elf_model.proofs.Listed.{Contains-from_filter}
use Rattle.elf_model.proofs.Pairs.{AllPairs-nil}
use Rattle.elf_model.proofs.RisingNames.{Rises, all_found, counted, rises_from_ascends}
use Rattle.image_write.specs.CommonRows.{own_commons}

-- the block of what a name means
abbrev block_in : Option Meaning → Option Block
block_in None = None
block_in (Some (Symbol s)) = None
block_in (Some (Common b)) = Some b
block_in (Some (Linker name bound)) = None

-- where none counts, none is found
find-uncounted : {X : Type 0} (p : X → Bool) (xs : List X) → count_by p xs ≡ 0 → find p xs ≡ None
find-uncounted p [] z = refl
find-uncounted {X} p (x ∷ xs) z = by (p x) refl (λ less. find-uncounted p xs less)
  where
    by : (b : Bool) → p x ≡ b → (count_by p xs ≡ 0 → find p xs ≡ None) → cond b (Some x) (find p xs) ≡ None
    by true e rest = let c = counted p x xs in let k = ap {B = ℕ} (λ b. cond b 1 0) e in absurd (omega (arith, c, k, z))
    by false e rest = let c = counted p x xs in let k = ap {B = ℕ} (λ b. cond b 1 0) e in rest (omega (arith, c, k, z))

module _ (n : List ℕ) (m : Meaning) (ms : List Meaning) (few : count_by (has_meaning n) (m ∷ ms) ≤ 1) where
  fewer : count_by (has_meaning n) ms ≤ 1
  fewer = let c = counted (has_meaning n) m ms in omega (arith, c, few)

  absent : has_meaning n m ≡ true → find (has_meaning n) ms ≡ None
  absent e =
      let c = counted (has_meaning n) m ms in
      let k = ap {B = ℕ} (λ b. cond b 1 0) e in
      find-uncounted (has_meaning n) ms (omega (arith, c, k, few))

  -- one that is no block
  passed : block_in (Some m) ≡ None → block_in (find (has_meaning n) ms) ≡ block_in (find (has_meaning n) (m ∷ ms))
  passed none = by (has_meaning n m) refl
    where
      by : (b : Bool) → has_meaning n m ≡ b → block_in (find (has_meaning n) ms) ≡ block_in (cond b (Some m) (find (has_meaning n) ms))
      by true e = ap block_in (absent e) ∙ sym none
      by false e = refl

module _ (base : ℕ) (objects : List LoadedObject) where
  abbrev row : Block → CommonRow
  row b = common_row_of base objects b

  -- a search among the lines, and one among what names mean
  commons_found :
      (n : List ℕ) (ms : List Meaning) → count_by (has_meaning n) ms ≤ 1 →
      find (is_common_row_of n) (own_commons base objects ms) ≡ option_map row (block_in (find (has_meaning n) ms))
  commons_found n [] few = refl
  commons_found n (Symbol s ∷ ms) few =
      commons_found n ms (fewer n (Symbol s) ms few) ∙ ap (option_map row) (passed n (Symbol s) ms few refl)
  commons_found n (Linker name bound ∷ ms) few =
      commons_found n ms (fewer n (Linker name bound) ms few) ∙ ap (option_map row) (passed n (Linker name bound) ms few refl)
  commons_found n (Common c ∷ ms) few = by (bytes_eq c.name n) (commons_found n ms (fewer n (Common c) ms few))
    where
      by :
          (b : Bool) → find (is_common_row_of n) (own_commons base objects ms) ≡ option_map row (block_in (find (has_meaning n) ms)) →
          cond b (Some (row c)) (find (is_common_row_of n) (own_commons base objects ms))
          ≡ option_map row (block_in (cond b (Some (Common c)) (find (has_meaning n) ms)))
      by true rest = refl
      by false rest = rest

module _ (objects : List LoadedObject) (n : List ℕ) where
  -- where the chosen symbol isn't common, no block has the name
  no_block : ((s : SymbolOf) → chosen objects n ≡ Some s → is_common_symbol s ≡ true → ⊥) → block_named objects n ≡ None
  no_block never =
      none_found (block_named objects n)
      (block_named-some objects n ∙ by (find (has_name n) (block_symbols objects)) refl)
    where
      by : (o : Option SymbolOf) → find (has_name n) (block_symbols objects) ≡ o → is_some o ≡ false
      by None e = refl
      by (Some t) e =
          let found = find-found (has_name n) (block_symbols objects) t e in
          let kept = Contains-from_filter is_common_symbol (chosen_symbols objects) t found.there in
          let only =
          All-contains (λ (y : SymbolOf). has_name n y ≡ true → find (has_name n) (chosen_symbols objects) ≡ Some y) (chosen_symbols objects) t
          (all_found (has_name n) (chosen_symbols objects) (chosen_once objects n)) kept.0 in
          absurd (never t (sym (chosen_listed objects n) ∙ only found.passes) kept.1)

  linkers_none : (b : Bool) (o : Option Bound) → block_in (cond b (option_map (Linker n) o) None) ≡ None
  linkers_none true None = refl
  linkers_none true (Some bound) = refl
  linkers_none false o = refl

  -- the block of what a name means that has a line is the name's block
  listed_block : block_in (listed objects n) ≡ block_named objects n
  listed_block = by (chosen objects n) refl
    where
      chosen_named : (s : SymbolOf) → chosen objects n ≡ Some s → s.name ≡ n
      chosen_named s e = (bytes_eq-Decides s.name n).0 (find-found (has_name n) (chosen_symbols objects) s (chosen_listed objects n ∙ e)).passes

      common : (o : Option Block) → block_in (option_or (option_map Common o) (option_map (Linker n) (bound_of objects n))) ≡ o
      common (Some b) = refl
      common None = linkers_none true (bound_of objects n)

      symbol :
          (s : SymbolOf) → chosen objects n ≡ Some s → (b : Bool) → is_common_symbol s ≡ b →
          block_in (option_or (cond b (option_map Common (block_named objects s.name)) (Some (Symbol s))) (option_map (Linker n) (bound_of objects n)))
          ≡ block_named objects n
      symbol s is true e = common (block_named objects s.name) ∙ ap (block_named objects) (chosen_named s is)
      symbol s is false e =
          sym (no_block (λ t there c. false≢true (sym e ∙ (ap is_common_symbol (same_Some s t (sym is ∙ there)) ∙ c))))

      by :
          (o : Option SymbolOf) → chosen objects n ≡ o →
          block_in (cond (is_some o || is_used objects n) (option_or (option_and_then (meant objects) o) (option_map (Linker n) (bound_of objects n))) None)
          ≡ block_named objects n
      by None is =
          linkers_none (is_used objects n) (bound_of objects n)
          ∙ sym (no_block (λ t there c. false≢true (ap is_some (sym is ∙ there))))
      by (Some s) is = symbol s is (is_common_symbol s) refl

-- each name has the line that its block asks for, or none
pub own_commons_found :
    (base : ℕ) (objects : List LoadedObject) (ms : List Meaning) → AreListed objects ms → (n : List ℕ) →
    HasOwnCommonLine (own_commons base objects ms) base objects n
own_commons_found base objects ms are n =
    commons_found base objects n ms (are.once n)
    ∙ ap (λ (o : Option Meaning). option_map (common_row_of base objects) (block_in o)) (are.found n)
    ∙ ap (option_map (common_row_of base objects)) (listed_block objects n)

-- names that rise
abbrev NamesAfter : List ℕ → List CommonRow → Type 0
NamesAfter n rows = All (λ (c : CommonRow). NameBefore n c.name) rows

module _ (base : ℕ) (objects : List LoadedObject) (w : Where) where
  commons_after : (n : List ℕ) (ms : List Meaning) → All (λ (r : SymbolRow). NameBefore n r.name) (map (symbol_row_of w) ms) → NamesAfter n (own_commons base objects ms)
  commons_after n [] all = All-nil (λ (c : CommonRow). NameBefore n c.name)
  commons_after n (m ∷ ms) all =
      by m (All-head (λ (r : SymbolRow). NameBefore n r.name) (symbol_row_of w m) (map (symbol_row_of w) ms) all)
      (commons_after n ms (All-tail (λ (r : SymbolRow). NameBefore n r.name) (symbol_row_of w m) (map (symbol_row_of w) ms) all))
    where
      by : (x : Meaning) → NameBefore n (meaning_name x) → NamesAfter n (own_commons base objects ms) → NamesAfter n (own_commons base objects (x ∷ ms))
      by (Symbol s) first rest = rest
      by (Common b) first rest = All-cons (λ (c : CommonRow). NameBefore n c.name) (common_row_of base objects b) (own_commons base objects ms) first rest
      by (Linker name bound) first rest = rest

  commons_pairs : (ms : List Meaning) → Rises (map (symbol_row_of w) ms) → AllPairs CommonBefore (own_commons base objects ms)
  commons_pairs [] up = AllPairs-nil CommonBefore
  commons_pairs (m ∷ ms) up = by m (commons_after (meaning_name m) ms up.0) (commons_pairs ms up.1)
    where
      by :
          (x : Meaning) → NamesAfter (meaning_name x) (own_commons base objects ms) → AllPairs CommonBefore (own_commons base objects ms) →
          AllPairs CommonBefore (own_commons base objects (x ∷ ms))
      by (Symbol s) first rest = rest
      by (Common b) first rest = AllPairs-cons CommonBefore (common_row_of base objects b) (own_commons base objects ms) first rest
      by (Linker name bound) first rest = rest

  -- the lines of blocks ascend where those of what names mean do
  pub own_commons_ascend : (ms : List Meaning) → Ascends SymbolBefore (map (symbol_row_of w) ms) → Ascends CommonBefore (own_commons base objects ms)
  own_commons_ascend ms up k d within = commons_pairs ms (rises_from_ascends (map (symbol_row_of w) ms) up) k (k + 1) d (omega arith) within
