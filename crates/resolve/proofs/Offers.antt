-- What a table says of a name to which definitions were offered.
use Rattle.std.proofs.Common.{◌≡◌, ℕ, ◌+◌, ◌≤◌, ◌&&◌, ◌||◌, Bool, true, false, cond, not, List, [], ◌∷◌, get_or, refl, sym, ◌∙◌, ap, subst, arith, true≢false}
use Rattle.std.specs.Prelude.{◌↔◌, IsTrue, count_by, filter, find, map, max, nat_lt, None, Option, Some, option_map, unwrap_or}
use Rattle.std.specs.Option.{option_map_or, option_or}
use Rattle.std.proofs.lemmas.Bool.{ltb-false, ltb-true}
use Rattle.std.proofs.lemmas.Bool.Decides.{nat_tests}
use Rattle.elf_model.proofs.ChosenSymbols.{count_filter, count_le}
use Rattle.elf_model.proofs.Found.{find-agree, find-filter, find-map}
use Rattle.elf_model.proofs.RisingNames.{counted}
use Rattle.elf_model.specs.Link.ChosenSymbols.{definitions, is_chosen, is_definition, is_same_symbol}
use Rattle.elf_model.specs.Link.Commons.{common_align, common_size, commons_named, greatest}
use Rattle.elf_model.specs.Link.Loading.{LoadedObject}
use Rattle.elf_model.specs.Link.Resolution as resolution
use Rattle.elf_model.specs.Link.Resolution.{SymbolOf, all_symbols, chosen, common_symbols, has_name, is_common_definition, is_weak_definition, strong_definitions, weak_definitions}
use Rattle.elf_model.specs.declared.references.SymbolRef.{SymbolRef}
use Rattle.resolve.specs.Blocks.{extent_in}
use Rattle.resolve.specs.Defined.{is_strong_of}
use Rattle.resolve.specs.Offered.{candidate_of, chosen_in, is_meant, is_referred, offer_of, offers_of, ref_of, rows_of}
use Rattle.symbols.proofs.OfferLaws.{all_offered-row_of}
use Rattle.symbols.proofs.RowLaws.{row_of-IsRowOf}
use Rattle.symbols.specs.Offers.{Offer, candidates_of, first_symbol, is_common, is_common_kind, is_for, is_strong, is_strong_kind, is_weak, is_weak_kind, row_of}
use Rattle.symbols.specs.Rows.{Rows, no_row}
use Rattle.symbols.specs.declared.candidate.Candidate.{Candidate}
use Rattle.symbols.specs.declared.candidate.CandidateKind.TheVariants.{Common, Strong, Weak}
use Rattle.symbols.specs.declared.row.Row.{Row}

-- a definition that is common and not strong, and one that is neither
abbrev asks : SymbolOf → Bool
asks s = not (resolution.is_strong s) && is_common_definition s

abbrev is_left : SymbolOf → Bool
is_left s = not (resolution.is_strong s) && not (is_common_definition s)

-- the candidates of a name, by the definitions that have it
candidates_named : (n : List ℕ) (ss : List SymbolOf) → candidates_of n (offers_of ss) ≡ map candidate_of (filter (has_name n) ss)
candidates_named n [] = refl
candidates_named n (s ∷ ss) = by (has_name n s) refl (candidates_named n ss)
  where
    by :
        (b : Bool) → has_name n s ≡ b → candidates_of n (offers_of ss) ≡ map candidate_of (filter (has_name n) ss) →
        candidates_of n (offers_of (s ∷ ss)) ≡ map candidate_of (filter (has_name n) (s ∷ ss))
    by true e rest =
        ap (λ b. map (λ (o : Offer). o.candidate) (cond b (offer_of s ∷ filter (is_for n) (offers_of ss)) (filter (is_for n) (offers_of ss)))) e
        ∙ ap (λ (cs : List Candidate). candidate_of s ∷ cs) rest
        ∙ sym (ap (λ b. map candidate_of (cond b (s ∷ filter (has_name n) ss) (filter (has_name n) ss))) e)
    by false e rest =
        ap (λ b. map (λ (o : Offer). o.candidate) (cond b (offer_of s ∷ filter (is_for n) (offers_of ss)) (filter (is_for n) (offers_of ss)))) e
        ∙ rest
        ∙ sym (ap (λ b. map candidate_of (cond b (s ∷ filter (has_name n) ss) (filter (has_name n) ss))) e)

-- a candidate is of the kind of its definition
module _ (s : SymbolOf) where
  kind_strong : is_strong (candidate_of s) ≡ resolution.is_strong s
  kind_strong = by (resolution.is_strong s) (is_common_definition s)
    where
      by : (b c : Bool) → is_strong_kind (cond b Strong (cond c Common Weak)) ≡ b
      by true c = refl
      by false true = refl
      by false false = refl

  kind_common : is_common (candidate_of s) ≡ asks s
  kind_common = by (resolution.is_strong s) (is_common_definition s)
    where
      by : (b c : Bool) → is_common_kind (cond b Strong (cond c Common Weak)) ≡ (not b && c)
      by true c = refl
      by false true = refl
      by false false = refl

  kind_weak : is_weak (candidate_of s) ≡ is_left s
  kind_weak = by (resolution.is_strong s) (is_common_definition s)
    where
      by : (b c : Bool) → is_weak_kind (cond b Strong (cond c Common Weak)) ≡ (not b && not c)
      by true c = refl
      by false true = refl
      by false false = refl

-- the first candidate of a name that passes a test, by the definitions
module _ (q : Candidate → Bool) (t : SymbolOf → Bool) (same : (s : SymbolOf) → q (candidate_of s) ≡ t s) (n : List ℕ) where
  abbrev both : SymbolOf → Bool
  both s = t s && has_name n s

  swapped : (s : SymbolOf) → (has_name n s && q (candidate_of s)) ≡ both s
  swapped s =
      ap (λ b. has_name n s && b) (same s)
      ∙ elim (has_name n s) as (λ b. (b && t s) ≡ (t s && b)) [
        | true ↦ elim (t s) as (λ c. c ≡ (c && true)) [ true ↦ refl | false ↦ refl ]
        | false ↦ elim (t s) as (λ c. false ≡ (c && false)) [ true ↦ refl | false ↦ refl ]
      ]

  first_named : (ss : List SymbolOf) → first_symbol q (map candidate_of (filter (has_name n) ss)) ≡ option_map ref_of (find both ss)
  first_named ss =
      ap (option_map (λ (c : Candidate). c.symbol))
      (find-map q candidate_of (filter (has_name n) ss)
      ∙ ap (option_map candidate_of)
      (find-filter (has_name n) (λ s. q (candidate_of s)) ss
      ∙ find-agree (λ s. has_name n s && q (candidate_of s)) both ss (λ k d within. swapped _)))
      ∙ symbol (find both ss)
    where
      symbol : (o : Option SymbolOf) → option_map (λ (c : Candidate). c.symbol) (option_map candidate_of o) ≡ option_map ref_of o
      symbol None = refl
      symbol (Some s) = refl

  counted_named : (ss : List SymbolOf) → count_by q (map candidate_of (filter (has_name n) ss)) ≡ count_by both ss
  counted_named [] = refl
  counted_named (s ∷ ss) = by (has_name n s) refl (counted_named ss)
    where
      by :
          (b : Bool) → has_name n s ≡ b → count_by q (map candidate_of (filter (has_name n) ss)) ≡ count_by both ss →
          count_by q (map candidate_of (filter (has_name n) (s ∷ ss))) ≡ count_by both (s ∷ ss)
      by true e rest =
          ap (λ b. count_by q (map candidate_of (cond b (s ∷ filter (has_name n) ss) (filter (has_name n) ss)))) e
          ∙ counted q (candidate_of s) (map candidate_of (filter (has_name n) ss))
          ∙ ap (λ k. cond (q (candidate_of s)) 1 0 + k) rest
          ∙ ap {B = ℕ} (λ b. cond b 1 0 + count_by both ss) (sym (ap (λ b. b && q (candidate_of s)) e) ∙ swapped s)
          ∙ sym (counted both s ss)
      by false e rest =
          ap (λ b. count_by q (map candidate_of (cond b (s ∷ filter (has_name n) ss) (filter (has_name n) ss)))) e
          ∙ rest
          ∙ sym
          (counted both s ss
          ∙ ap {B = ℕ} (λ b. cond b 1 0 + count_by both ss) (sym (swapped s) ∙ ap (λ b. b && q (candidate_of s)) e)
          ∙ omega arith)

  -- numbers of the candidates of a name that pass a test
  numbers_named :
      (f : Candidate → ℕ) (g : SymbolOf → ℕ) → ((s : SymbolOf) → f (candidate_of s) ≡ g s) → (ss : List SymbolOf) →
      map f (filter q (map candidate_of (filter (has_name n) ss))) ≡ map g (filter both ss)
  numbers_named f g alike [] = refl
  numbers_named f g alike (s ∷ ss) = by (has_name n s) refl (numbers_named f g alike ss)
    where
      kept : (b : Bool) → map f (filter q (map candidate_of (filter (has_name n) ss))) ≡ map g (filter both ss) →
          map f (cond b (candidate_of s ∷ filter q (map candidate_of (filter (has_name n) ss))) (filter q (map candidate_of (filter (has_name n) ss))))
          ≡ map g (cond b (s ∷ filter both ss) (filter both ss))
      kept true rest = ap (λ (k : ℕ). k ∷ map f (filter q (map candidate_of (filter (has_name n) ss)))) (alike s) ∙ ap (λ (ks : List ℕ). g s ∷ ks) rest
      kept false rest = rest

      by :
          (b : Bool) → has_name n s ≡ b → map f (filter q (map candidate_of (filter (has_name n) ss))) ≡ map g (filter both ss) →
          map f (filter q (map candidate_of (filter (has_name n) (s ∷ ss)))) ≡ map g (filter both (s ∷ ss))
      by true e rest =
          ap (λ b. map f (filter q (map candidate_of (cond b (s ∷ filter (has_name n) ss) (filter (has_name n) ss))))) e
          ∙ kept (q (candidate_of s)) rest
          ∙ ap (λ b. map g (cond b (s ∷ filter both ss) (filter both ss))) (sym (ap (λ b. b && q (candidate_of s)) e) ∙ swapped s)
      by false e rest =
          ap (λ b. map f (filter q (map candidate_of (cond b (s ∷ filter (has_name n) ss) (filter (has_name n) ss))))) e
          ∙ rest
          ∙ ap (λ b. map g (cond b (s ∷ filter both ss) (filter both ss))) (sym (ap (λ b. b && q (candidate_of s)) e) ∙ swapped s)

-- what passes two tests, and two tests that agree
filter-filter : {X : Type 0} (p q : X → Bool) (xs : List X) → filter q (filter p xs) ≡ filter (λ x. p x && q x) xs
filter-filter p q [] = refl
filter-filter {X} p q (x ∷ xs) = by (p x) (filter-filter p q xs)
  where
    by : (b : Bool) → filter q (filter p xs) ≡ filter (λ y. p y && q y) xs →
        filter q (cond b (x ∷ filter p xs) (filter p xs)) ≡ cond (b && q x) (x ∷ filter (λ y. p y && q y) xs) (filter (λ y. p y && q y) xs)
    by true rest = ap (λ (ys : List X). cond (q x) (x ∷ ys) ys) rest
    by false rest = rest

pub filter-agree : {X : Type 0} (p q : X → Bool) (xs : List X) → ((x : X) → p x ≡ q x) → filter p xs ≡ filter q xs
filter-agree p q [] same = refl
filter-agree {X} p q (x ∷ xs) same =
    ap (λ b. cond b (x ∷ filter p xs) (filter p xs)) (same x)
    ∙ ap (λ (ys : List X). cond (q x) (x ∷ ys) ys) (filter-agree p q xs same)

module _ (ss : List SymbolOf) (n : List ℕ) where
  abbrev pub row : Row
  row = unwrap_or (rows_of ss n) no_row

  same_row : unwrap_or (row_of (offers_of ss) n) no_row ≡ row
  same_row = ap (λ (rows : Rows). unwrap_or (rows n) no_row) (sym (all_offered-row_of (offers_of ss)))

  -- its row says that two strong definitions have the name where two have it
  pub row_twice : IsTrue row.twice ↔ (2 ≤ count_by (is_strong_of n) ss)
  row_twice =
      let is = row_of-IsRowOf (offers_of ss) n in
      let same : count_by is_strong (candidates_of n (offers_of ss)) ≡ count_by (is_strong_of n) ss =
      ap (count_by is_strong) (candidates_named n ss)
      ∙ counted_named is_strong resolution.is_strong kind_strong n ss in
      subst (λ (m : ℕ). IsTrue row.twice ↔ (2 ≤ m)) same
      (subst (λ (r : Row). IsTrue r.twice ↔ (2 ≤ count_by is_strong (candidates_of n (offers_of ss)))) same_row is.twice)

  -- its row refers to the first strong and to the first weak definition that has it
  pub row_strong : row.strong ≡ option_map ref_of (find (is_strong_of n) ss)
  row_strong =
      let is = row_of-IsRowOf (offers_of ss) n in
      ap (λ (r : Row). r.strong) (sym same_row) ∙ is.strong
      ∙ ap (first_symbol is_strong) (candidates_named n ss)
      ∙ first_named is_strong resolution.is_strong kind_strong n ss

  pub row_common : row.common ≡ option_map ref_of (find (λ s. asks s && has_name n s) ss)
  row_common =
      let is = row_of-IsRowOf (offers_of ss) n in
      ap (λ (r : Row). r.common) (sym same_row) ∙ is.common
      ∙ ap (first_symbol is_common) (candidates_named n ss)
      ∙ first_named is_common asks kind_common n ss

  pub row_weak : row.weak ≡ option_map ref_of (find (λ s. is_left s && has_name n s) ss)
  row_weak =
      let is = row_of-IsRowOf (offers_of ss) n in
      ap (λ (r : Row). r.weak) (sym same_row) ∙ is.weak
      ∙ ap (first_symbol is_weak) (candidates_named n ss)
      ∙ first_named is_weak is_left kind_weak n ss

  -- and has the greatest size and the greatest alignment of the common ones
  pub row_size : row.common_size ≡ greatest (map (λ s. s.entry.st_size) (filter (λ s. asks s && has_name n s) ss))
  row_size =
      let is = row_of-IsRowOf (offers_of ss) n in
      ap (λ (r : Row). r.common_size) (sym same_row) ∙ is.common_size
      ∙ ap (λ (cs : List Candidate). greatest (map (λ c. c.size) (filter is_common cs))) (candidates_named n ss)
      ∙ ap greatest (numbers_named is_common asks kind_common n (λ c. c.size) (λ s. s.entry.st_size) (λ s. refl) ss)

  pub row_align : row.common_align ≡ greatest (map (λ s. s.entry.st_value) (filter (λ s. asks s && has_name n s) ss))
  row_align =
      let is = row_of-IsRowOf (offers_of ss) n in
      ap (λ (r : Row). r.common_align) (sym same_row) ∙ is.common_align
      ∙ ap (λ (cs : List Candidate). greatest (map (λ c. c.align) (filter is_common cs))) (candidates_named n ss)
      ∙ ap greatest (numbers_named is_common asks kind_common n (λ c. c.align) (λ s. s.entry.st_value) (λ s. refl) ss)

-- the common ones of definitions tell the extent of a block
pub commons_extent : (ss : List SymbolOf) (n : List ℕ) → ◌≡◌ {A = ℕ × ℕ} (extent_in (rows_of (filter is_common_definition ss)) n) (extent_in (rows_of ss) n)
commons_extent ss n =
    pair
    (row_size (filter is_common_definition ss) n ∙ (ap (λ (xs : List SymbolOf). greatest (map (λ s. s.entry.st_size) xs)) same ∙ sym (row_size ss n)))
    (ap (λ (m : ℕ). max 1 m)
    (row_align (filter is_common_definition ss) n ∙ (ap (λ (xs : List SymbolOf). greatest (map (λ s. s.entry.st_value) xs)) same ∙ sym (row_align ss n))))
  where
    pair : {a b c d : ℕ} → a ≡ c → b ≡ d → ◌≡◌ {A = ℕ × ℕ} (a, b) (c, d)
    pair e f = cc

    kept : (a b c : Bool) → (b && ((not a && b) && c)) ≡ ((not a && b) && c)
    kept a true c = refl
    kept true false c = refl
    kept false false c = refl

    same : filter (λ s. asks s && has_name n s) (filter is_common_definition ss) ≡ filter (λ s. asks s && has_name n s) ss
    same =
        filter-filter is_common_definition (λ s. asks s && has_name n s) ss
        ∙ filter-agree (λ s. is_common_definition s && (asks s && has_name n s)) (λ s. asks s && has_name n s) ss (λ s. kept (resolution.is_strong s) (is_common_definition s) (has_name n s))

-- a symbol is of one kind
not_strong_weak : (s : SymbolOf) → resolution.is_strong s ≡ true → is_weak_definition s ≡ true → ⊥
not_strong_weak s strong weak = grind (arith, nat_tests)

not_common_weak : (s : SymbolOf) → is_common_definition s ≡ true → is_weak_definition s ≡ true → ⊥
not_common_weak s common weak = grind (arith, nat_tests)

not_strong_common : (s : SymbolOf) → resolution.is_strong s ≡ true → is_common_definition s ≡ true → ⊥
not_strong_common s strong common = grind (arith, nat_tests)

module _ (L : List LoadedObject) (n : List ℕ) where
  abbrev strong_named : SymbolOf → Bool
  strong_named s = is_definition s && is_strong_of n s

  strong_kept : (s : SymbolOf) → strong_named s ≡ is_strong_of n s
  strong_kept s = by (resolution.is_strong s) (is_common_definition s || is_weak_definition s)
    where
      by : (b c : Bool) → ((b || c) && (b && has_name n s)) ≡ (b && has_name n s)
      by true c = refl
      by false true = refl
      by false false = refl

  common_kept : (s : SymbolOf) → (is_definition s && (asks s && has_name n s)) ≡ (is_common_definition s && has_name n s)
  common_kept s = by (resolution.is_strong s) (is_common_definition s) refl refl
    where
      by :
          (b c : Bool) → resolution.is_strong s ≡ b → is_common_definition s ≡ c →
          ((b || (c || is_weak_definition s)) && ((not b && c) && has_name n s)) ≡ (c && has_name n s)
      by true true e f = absurd (not_strong_common s e f)
      by true false e f = refl
      by false true e f = refl
      by false false e f = elim (is_weak_definition s) as (λ d. (d && false) ≡ false) [ true ↦ refl | false ↦ refl ]

  weak_kept : (s : SymbolOf) → (is_definition s && (is_left s && has_name n s)) ≡ (is_weak_definition s && has_name n s)
  weak_kept s = by (resolution.is_strong s) (is_common_definition s) (is_weak_definition s) refl refl refl
    where
      by :
          (b c d : Bool) → resolution.is_strong s ≡ b → is_common_definition s ≡ c → is_weak_definition s ≡ d →
          ((b || (c || d)) && ((not b && not c) && has_name n s)) ≡ (d && has_name n s)
      by true c true e f g = absurd (not_strong_weak s e g)
      by true c false e f g = refl
      by false true true e f g = absurd (not_common_weak s f g)
      by false true false e f g = refl
      by false false true e f g = refl
      by false false false e f g = refl

  -- the first of the definitions of a kind is the first of all symbols of it
  first_of :
      (p q : SymbolOf → Bool) → ((s : SymbolOf) → (is_definition s && (p s && has_name n s)) ≡ (q s && has_name n s)) →
      find (λ s. p s && has_name n s) (definitions L) ≡ find (has_name n) (filter q (all_symbols L))
  first_of p q same =
      find-filter is_definition (λ s. p s && has_name n s) (all_symbols L)
      ∙ find-agree (λ s. is_definition s && (p s && has_name n s)) (λ s. q s && has_name n s) (all_symbols L) (λ k d within. same (get_or (all_symbols L) k d))
      ∙ sym (find-filter q (has_name n) (all_symbols L))

  -- the rows of all definitions say which one is chosen
  pub row_chosen : chosen_in (rows_of (definitions L)) n ≡ option_map ref_of (chosen L n)
  row_chosen =
      three (row_strong (definitions L) n ∙ ap (option_map ref_of) (first_of resolution.is_strong resolution.is_strong strong_kept))
      (row_common (definitions L) n ∙ ap (option_map ref_of) (first_of asks is_common_definition common_kept))
      (row_weak (definitions L) n ∙ ap (option_map ref_of) (first_of is_left is_weak_definition weak_kept))
      ∙ joined (find (has_name n) (strong_definitions L)) (find (has_name n) (common_symbols L)) (find (has_name n) (weak_definitions L))
    where
      three :
          {a b c x y z : Option SymbolRef} → a ≡ x → b ≡ y → c ≡ z → option_or a (option_or b c) ≡ option_or x (option_or y z)
      three d e f = cc

      joined :
          (o p r : Option SymbolOf) →
          option_or (option_map ref_of o) (option_or (option_map ref_of p) (option_map ref_of r)) ≡ option_map ref_of (option_or o (option_or p r))
      joined None None r = refl
      joined None (Some s) r = refl
      joined (Some s) p r = refl

  -- and what its block has to hold
  common_sizes : filter (λ s. asks s && has_name n s) (definitions L) ≡ commons_named L n
  common_sizes =
      filter-filter is_definition (λ s. asks s && has_name n s) (all_symbols L)
      ∙ filter-agree (λ s. is_definition s && (asks s && has_name n s)) (λ s. is_common_definition s && has_name n s) (all_symbols L) common_kept
      ∙ sym (filter-filter is_common_definition (has_name n) (all_symbols L))

  pub row_extent : ◌≡◌ {A = ℕ × ℕ} (extent_in (rows_of (definitions L)) n) (common_size L n, common_align L n)
  row_extent =
      pair
      (row_size (definitions L) n ∙ ap (λ (ss : List SymbolOf). greatest (map (λ s. s.entry.st_size) ss)) common_sizes)
      (ap (λ (m : ℕ). max 1 m)
      (row_align (definitions L) n ∙ ap (λ (ss : List SymbolOf). greatest (map (λ s. s.entry.st_value) ss)) common_sizes))
    where
      pair : {a b c d : ℕ} → a ≡ c → b ≡ d → ◌≡◌ {A = ℕ × ℕ} (a, b) (c, d)
      pair e f = cc

  -- and how many strong ones there are
  pub strong_counted : count_by (is_strong_of n) (definitions L) ≡ count_by (has_name n) (strong_definitions L)
  strong_counted =
      let one = count_filter is_definition (is_strong_of n) (all_symbols L) in
      let two = count_filter resolution.is_strong (has_name n) (all_symbols L) in
      let low = count_le strong_named (is_strong_of n) (all_symbols L) (λ s t. sym (strong_kept s) ∙ t) in
      let high = count_le (is_strong_of n) strong_named (all_symbols L) (λ s t. strong_kept s ∙ t) in
      omega (arith, one, two, low, high)

-- a definition is meant by its name where it is the chosen one
pub meant_chosen : (L : List LoadedObject) (s : SymbolOf) → is_meant (rows_of (definitions L)) s ≡ is_chosen L s
meant_chosen L s = ap (λ (o : Option SymbolRef). option_map_or (is_referred s) o false) (row_chosen L s.name) ∙ by (chosen L s.name)
  where
    by : (o : Option SymbolOf) → option_map_or (is_referred s) (option_map ref_of o) false ≡ option_map_or (is_same_symbol s) o false
    by None = refl
    by (Some t) = refl

-- a table to which definitions were offered says of a name that two strong ones have it: so it is
pub twin_found :
    (ss : List SymbolOf) (rows : Rows) (n : List ℕ) (b : Bool) → rows ≡ rows_of ss → b ≡ (unwrap_or (rows n) no_row).twice → b ≡ true →
    2 ≤ count_by (is_strong_of n) ss
twin_found ss rows n b is told t =
    (row_twice ss n).0 (sym (told ∙ ap (λ (r : Rows). (unwrap_or (r n) no_row).twice) is) ∙ t)

-- it doesn't: one has it at most
pub twin_missed :
    (ss : List SymbolOf) (rows : Rows) (n : List ℕ) (b : Bool) → rows ≡ rows_of ss → b ≡ (unwrap_or (rows n) no_row).twice → b ≡ false →
    count_by (is_strong_of n) ss ≤ 1
twin_missed ss rows n b is told f = by (nat_lt 1 (count_by (is_strong_of n) ss)) refl
  where
    by : (t : Bool) → nat_lt 1 (count_by (is_strong_of n) ss) ≡ t → count_by (is_strong_of n) ss ≤ 1
    by false e = ltb-false 1 (count_by (is_strong_of n) ss) e
    by true e =
        let more = ltb-true 1 (count_by (is_strong_of n) ss) e in
        let twice : (row ss n).twice ≡ true = (row_twice ss n).1 (omega (arith, more)) in
        let clash : true ≡ false = sym twice ∙ sym (told ∙ ap (λ (r : Rows). (unwrap_or (r n) no_row).twice) is) ∙ f in
        absurd (true≢false clash)
