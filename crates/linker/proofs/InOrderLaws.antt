-- The definitions that have a line, found by the positions of their names in order, are those that have one, in order.
use Rattle.std.proofs.Common.{◌≡◌, ◌∙◌, ℕ, zero, suc, ◌+◌, ◌-◌, ◌≤◌, ◌==◌, Bool, true, false, cond, List, [], ◌∷◌, ◌++◌, Option, None, Some, get_or, length, map, refl, ap, subst, sym, arith}
use Rattle.std.specs.Prelude.{All, Contains, IsPermutation, find, is_some, option_map, unwrap_or}
use Rattle.std.specs.Borrow.{Bor}
use Rattle.std.specs.Cmp.Lexicographic.{slice_cmp}
use Rattle.std.specs.List.{range_with_len, slice_get}
use Rattle.std.specs.List.Sorted.{IsSortedByKey}
use Rattle.std.specs.Option.{option_map_or}
use Rattle.std.specs.Ordering.{is_lt, nat_cmp}
use Rattle.std.proofs.lemmas.Bool.{eqb-true, false≢true}
use Rattle.std.proofs.lemmas.List.{get_or-map, length-map, map-append}
use Rattle.std.proofs.lemmas.List.Elements.{All-contains, All-head, All-tail}
use Rattle.std.proofs.lemmas.List.FromFn.{fill_by_all}
use Rattle.std.proofs.lemmas.List.Sorted.{IsPermutation-map, IsPermutation-refl}
use Rattle.std.proofs.lemmas.Simd.{map-map}
use Rattle.std.proofs.lemmas.Option.{none-some, same_Some, slice_get_past}
use Rattle.std.proofs.lemmas.Slice.Eq.{bytes_eq-Decides}
use Rattle.elf_model.specs.Link.ChosenSymbols.{chosen_symbols}
use Rattle.elf_model.specs.Link.Commons.{Block, block_named, block_symbols, blocks, is_block_of, is_common_symbol}
use Rattle.elf_model.specs.Link.Listing.{AreLinkerLines, AreListed, listed}
use Rattle.elf_model.specs.Link.Loading.{LoadedObject}
use Rattle.elf_model.specs.Image.MapRecord.{CommonRow}
use Rattle.elf_model.specs.Link.Meaning.{Common, Linker, Meaning, Symbol, meaning_name, meanings_of, meant}
use Rattle.elf_model.specs.Link.Resolution.{AreSoundSymbols, SymbolOf, has_name}
use Rattle.elf_model.specs.declared.bound.Bound.{Bound}
use Rattle.elf_model.specs.declared.bound.Bound.TheVariants.{ImageStart}
use Rattle.elf_model.proofs.Blocks.{block_named-some}
use Rattle.elf_model.proofs.Finding.{find-found, none-passes}
use Rattle.elf_model.proofs.Listed.{All-from_contains, Contains-filter}
use Rattle.elf_model.proofs.Listing.{joined_listed, permuted_is_of}
use Rattle.resolve.specs.Blocks.{block_views}
use Rattle.resolve.specs.declared.blocks.Block as held
use Rattle.resolve.specs.Chosen.{defined_in}
use Rattle.resolve.specs.Views.{meaning_view, meaning_views}
use Rattle.resolve.specs.declared.definition.Definition as definitions
use Rattle.image_write.specs.CommonRows.{common_rows_of, own_commons}
use Rattle.image_write.specs.Listings.{IsListing}
use Rattle.linker.specs.InOrder.{AreInOrder, all_meanings, meaning_at, meanings_at, own_meaning}
use Rattle.relocate.specs.Uses.{line_view, line_views}
use Rattle.linker.proofs.Listings.{no_twins}
use Rattle.linker.specs.NameKeys.{IsOrderOf, held_names}
use Rattle.linker.specs.declared.name_order.Keyed.{Keyed}
use Rattle.linker.specs.declared.name_order.Names.{Names}

module _ (L : List LoadedObject) where
  -- what a symbol means has the symbol's name
  own_name : (s : SymbolOf) → meaning_name (own_meaning L s) ≡ s.name
  own_name s = by (is_common_symbol s) (block_named L s.name) refl
    where
      by :
          (b : Bool) (o : Option Block) → block_named L s.name ≡ o →
          meaning_name (unwrap_or (cond b (option_map Common (block_named L s.name)) (Some (Symbol s))) (Symbol s)) ≡ s.name
      by false o named = refl
      by true None named = ap (λ (q : Option Block). meaning_name (unwrap_or (option_map Common q) (Symbol s))) named
      by true (Some b) named =
          ap (λ (q : Option Block). meaning_name (unwrap_or (option_map Common q) (Symbol s))) named
          ∙ (bytes_eq-Decides b.name s.name).0 (find-found (is_block_of s.name) (blocks L) b named).passes

  -- a chosen symbol means something
  chosen_means : (s : SymbolOf) → Contains (chosen_symbols L) s → is_some (meant L s) ≡ true
  chosen_means s chosen = by (is_common_symbol s) refl
    where
      found : (o : Option SymbolOf) → find (has_name s.name) (block_symbols L) ≡ o → is_common_symbol s ≡ true → is_some o ≡ true
      found (Some t) e common = refl
      found None e common =
          absurd
          (false≢true
          (sym (All-contains (λ (t : SymbolOf). has_name s.name t ≡ false) (block_symbols L) s (none-passes (has_name s.name) (block_symbols L) e) (Contains-filter is_common_symbol (chosen_symbols L) s chosen common))
          ∙ (bytes_eq-Decides s.name s.name).1 refl))

      mapped : (o : Option Block) → is_some o ≡ true → is_some (option_map Common o) ≡ true
      mapped (Some b) e = refl
      mapped None e = absurd (false≢true e)

      by : (b : Bool) → is_common_symbol s ≡ b → is_some (cond b (option_map Common (block_named L s.name)) (Some (Symbol s))) ≡ true
      by false e = refl
      by true e = mapped (block_named L s.name) (block_named-some L s.name ∙ found (find (has_name s.name) (block_symbols L)) refl e)

  each_means : (ss : List SymbolOf) → All (λ s. is_some (meant L s) ≡ true) ss → meanings_of L ss ≡ map (own_meaning L) ss
  each_means [] all = refl
  each_means (s ∷ ss) all =
      first (meant L s) (All-head (λ (t : SymbolOf). is_some (meant L t) ≡ true) s ss all)
      ∙ ap (λ (ms : List Meaning). own_meaning L s ∷ ms) (each_means ss (All-tail (λ (t : SymbolOf). is_some (meant L t) ≡ true) s ss all))
    where
      first : (o : Option Meaning) → is_some o ≡ true → option_map_or (λ m. m ∷ []) o [] ++ meanings_of L ss ≡ unwrap_or o (Symbol s) ∷ meanings_of L ss
      first None e = absurd (false≢true e)
      first (Some m) e = refl

  chosen_meanings : meanings_of L (chosen_symbols L) ≡ map (own_meaning L) (chosen_symbols L)
  chosen_meanings = each_means (chosen_symbols L) (All-from_contains (λ (s : SymbolOf). is_some (meant L s) ≡ true) (chosen_symbols L) chosen_means)

-- the elements of a list at its positions
all_places : {X : Type 0} (xs : List X) (d : X) → xs ≡ map (λ p. get_or xs p d) (range_with_len 0 (length xs))
all_places xs d = fill_by_all (λ p. get_or xs p d) xs (length xs) d refl (λ k within. refl)

-- an element seen otherwise, where what is behind the last is seen so too
get_or-seen : {X Y : Type 0} (f : X → Y) (xs : List X) (i : ℕ) (d : X) → get_or (map f xs) i (f d) ≡ f (get_or xs i d)
get_or-seen f [] i d = refl
get_or-seen f (x ∷ xs) zero d = refl
get_or-seen f (x ∷ xs) (suc i) d = get_or-seen f xs i d

-- a list that is sorted by what is seen of it
pub sorted_seen :
    {X Y : Type 0} (view : X → Y) (name : Y → List ℕ) (xs : List X) → IsSortedByKey name (slice_cmp nat_cmp) (map view xs) →
    IsSortedByKey (λ x. name (view x)) (slice_cmp nat_cmp) xs
sorted_seen {X} {Y} view name xs up k d low within =
    let n = length-map xs view in
    let here = get_or-seen view xs k d in
    let next = get_or-seen view xs (k + 1) d in
    subst (λ (y : Y). is_lt (slice_cmp nat_cmp (name (view (get_or xs (k + 1) d))) (name y)) ≡ false) here
    (subst (λ (y : Y). is_lt (slice_cmp nat_cmp (name y) (name (get_or (map view xs) k (view d)))) ≡ false) next
    (up k (view d) low (omega (arith, within, n))))

-- the other way round
pub seen_sorted :
    {X Y : Type 0} (view : X → Y) (name : Y → List ℕ) (xs : List X) → IsSortedByKey (λ x. name (view x)) (slice_cmp nat_cmp) xs →
    IsSortedByKey name (slice_cmp nat_cmp) (map view xs)
seen_sorted {X} {Y} view name [] up k e low within = absurd (omega (arith, within))
seen_sorted {X} {Y} view name (x ∷ xs) up k e low within =
    let n = length-map (x ∷ xs) view in
    let here = get_or-map view (x ∷ xs) k x e (omega (arith, within, n)) in
    let next = get_or-map view (x ∷ xs) (k + 1) x e (omega (arith, within, n)) in
    subst (λ (y : Y). is_lt (slice_cmp nat_cmp (name (get_or (map view (x ∷ xs)) (k + 1) e)) (name y)) ≡ false) (sym here)
    (subst (λ (y : Y). is_lt (slice_cmp nat_cmp (name y) (name (view (get_or (x ∷ xs) k x)))) ≡ false) (sym next)
    (up k x low (omega (arith, within, n))))

module _ (L : List LoadedObject) (found : List SymbolOf) (lines : List Meaning) (held : List (List ℕ)) (same : found ≡ chosen_symbols L) (of : AreLinkerLines L lines) (names : map (λ s. s.name) found ++ map meaning_name lines ≡ held) where
  abbrev all : List Meaning
  all = all_meanings L found lines

  names_are : map meaning_name all ≡ held
  names_are =
      map-append meaning_name (map (own_meaning L) found) lines
      ∙ ap (λ (ns : List (List ℕ)). ns ++ map meaning_name lines) (each found)
      ∙ names
    where
      each : (ss : List SymbolOf) → map meaning_name (map (own_meaning L) ss) ≡ map (λ s. s.name) ss
      each [] = refl
      each (s ∷ ss) = ap (λ (n : List ℕ). n ∷ map meaning_name (map (own_meaning L) ss)) (own_name L s) ∙ ap (λ (ns : List (List ℕ)). s.name ∷ ns) (each ss)

  all_listed : AreListed L all
  all_listed =
      subst (λ (ss : List SymbolOf). AreListed L (map (own_meaning L) ss ++ lines)) (sym same)
      (subst (λ (ms : List Meaning). AreListed L (ms ++ lines)) (chosen_meanings L)
      (joined_listed L (chosen_symbols L) lines (IsPermutation-refl (chosen_symbols L)) of))

  named : (position : ℕ) → get_or held position [] ≡ meaning_name (meaning_at L found lines position)
  named position = ap (λ (ns : List (List ℕ)). get_or ns position []) (sym names_are) ∙ get_or-seen meaning_name all position (Linker [] ImageStart)

  pub in_order : (ks : List Keyed) → IsOrderOf held ks → AreInOrder L (meanings_at L found lines ks)
  in_order ks order = record {
    listed = permuted_is_of (listed L) all (meanings_at L found lines ks) moved all_listed;
    rising = seen_sorted (λ k. meaning_at L found lines k.position) meaning_name ks rising;
  }
    where
      at : ℕ → Meaning
      at position = meaning_at L found lines position

      count : length held ≡ length all
      count = ap length (sym names_are) ∙ length-map all meaning_name

      moved : IsPermutation all (meanings_at L found lines ks)
      moved =
          subst (λ (ms : List Meaning). IsPermutation ms (meanings_at L found lines ks)) (sym (all_places all (Linker [] ImageStart)))
          (subst (λ (n : ℕ). IsPermutation (map at (range_with_len 0 n)) (meanings_at L found lines ks)) count
          (subst (IsPermutation (map at (range_with_len 0 (length held)))) (map-map at (λ k. k.position) ks)
          (IsPermutation-map at (range_with_len 0 (length held)) (map (λ k. k.position) ks) order.positions)))

      rising : IsSortedByKey (λ k. meaning_name (at k.position)) (slice_cmp nat_cmp) ks
      rising =
          subst (λ (key : Keyed → List ℕ). IsSortedByKey key (slice_cmp nat_cmp) ks) (λ i k. named k.position i) order.rising

-- what stands at a position
pub at_symbol :
    (L : List LoadedObject) (found : List SymbolOf) (lines : List Meaning) (position : ℕ) (s : SymbolOf) → slice_get found position ≡ Some s →
    own_meaning L s ≡ meaning_at L found lines position
at_symbol L [] lines position s at = absurd (none-some s (sym (slice_get_past [] position (omega arith)) ∙ at))
at_symbol L (t ∷ found) lines zero s at = ap (own_meaning L) (sym (same_Some t s at))
at_symbol L (t ∷ found) lines (suc position) s at = at_symbol L found lines position s at

pub at_line :
    (L : List LoadedObject) (found : List SymbolOf) (lines : List Meaning) (position : ℕ) → length found ≤ position →
    get_or lines (position - length found) (Linker [] ImageStart) ≡ meaning_at L found lines position
at_line L [] lines position behind = ap (λ (p : ℕ). get_or lines p (Linker [] ImageStart)) (omega arith)
at_line L (t ∷ found) lines zero behind = absurd (omega (arith, behind))
at_line L (t ∷ found) lines (suc position) behind =
    ap (λ (p : ℕ). get_or lines p (Linker [] ImageStart)) (omega arith) ∙ at_line L found lines position (omega (arith, behind))

-- the names of symbols and of lines
pub held_are : (n : Names) → map (λ s. s.name) (defined_in n.symbols) ++ map meaning_name (line_views n.linkers.now) ≡ held_names n
held_are n = ap (λ (ns : List (List ℕ)). map (λ s. s.name) (defined_in n.symbols) ++ ns) (map-map meaning_name line_view n.linkers.now)

-- a list of definitions that are those in order
pub is_listing :
    (objects : List LoadedObject) (ms : List definitions.Definition) → AreSoundSymbols objects → AreInOrder objects (meaning_views ms) → IsListing objects ms
is_listing objects ms sound is = record {
  listed = is.listed;
  rising = sorted_seen meaning_view meaning_name ms is.rising;
  no_twins = no_twins objects ms is.listed;
  sound = sound;
}

pub from_listing :
    (objects : List LoadedObject) (ms : List definitions.Definition) → IsListing objects ms → AreInOrder objects (meaning_views ms)
from_listing objects ms is = record { listed = is.listed; rising = seen_sorted meaning_view meaning_name ms is.rising }

-- where there is no common block, none has a line
module _ (L : List LoadedObject) (none : blocks L ≡ []) (base : ℕ) (objects : List LoadedObject) where
  no_row : (s : SymbolOf) → common_rows_of base objects (own_meaning L s) ≡ []
  no_row s = by (is_common_symbol s) (ap (find (is_block_of s.name)) none)
    where
      by :
          (b : Bool) → block_named L s.name ≡ None →
          common_rows_of base objects (unwrap_or (cond b (option_map Common (block_named L s.name)) (Some (Symbol s))) (Symbol s)) ≡ []
      by false named = refl
      by true named = ap (λ (o : Option Block). common_rows_of base objects (unwrap_or (option_map Common o) (Symbol s))) named

  row_at : (found : List SymbolOf) (lines : List (Bor (List ℕ) × Bound)) (position : ℕ) → common_rows_of base objects (meaning_at L found (line_views lines) position) ≡ []
  row_at [] [] position = refl
  row_at [] (l ∷ lines) zero = refl
  row_at [] (l ∷ lines) (suc position) = row_at [] lines position
  row_at (s ∷ found) lines zero = no_row s
  row_at (s ∷ found) lines (suc position) = row_at found lines position

  pub no_commons : (found : List SymbolOf) (lines : List (Bor (List ℕ) × Bound)) (ks : List Keyed) → own_commons base objects (meanings_at L found (line_views lines) ks) ≡ []
  no_commons found lines [] = refl
  no_commons found lines (k ∷ ks) =
      ap (λ (rows : List CommonRow). rows ++ own_commons base objects (meanings_at L found (line_views lines) ks)) (row_at found lines k.position)
      ∙ no_commons found lines ks

pub no_blocks : (bs : List held.Block) → (length bs == 0) ≡ true → block_views bs ≡ []
no_blocks [] is = refl
no_blocks (b ∷ bs) is = let e = eqb-true (length (b ∷ bs)) 0 is in absurd (omega (arith, e))
