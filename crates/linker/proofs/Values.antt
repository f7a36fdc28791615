-- The values of sound definitions lie within the addresses where the objects are laid out.
use Rattle.std.proofs.Common.{◌≡◌, ◌==◌, ◌&&◌, ◌||◌, ◌⊎◌, inl, inr, ℕ, ◌+◌, ◌<◌, ◌≤◌, ◌^◌, Bool, true, false, cond, List, [], ◌∷◌, length, not, refl, sym, ◌∙◌, ap, subst, arith}
use Rattle.std.specs.Prelude.{All, Contains, IfSome, Option, Some, None, find, is_some, option_map}
use Rattle.std.specs.List.{slice_get}
use Rattle.std.specs.Option.{option_and_then, option_or}
use Rattle.std.proofs.lemmas.Bool.{and_parts, eqb-true, false≢true}
use Rattle.std.proofs.lemmas.Bool.Decides.{nat_tests}
use Rattle.std.proofs.lemmas.List.Elements.{All-append, All-cons, All-contains, All-nil, All-weaker, Contains-append_cases}
use Rattle.std.proofs.lemmas.Option.{none-some, same_Some}
use Rattle.std.proofs.lemmas.Slice.Eq.{bytes_eq-Decides}
use Rattle.elf_model.specs.Link.ChosenSymbols.{chosen_symbols, definitions, is_chosen, is_definition}
use Rattle.elf_model.specs.Link.Commons.{Block, block_named, block_pieces, is_common_symbol, pieces}
use Rattle.elf_model.specs.Link.LinkerNames.{bound_of}
use Rattle.elf_model.specs.Link.Listing.{AreListed, has_meaning, is_used, listed}
use Rattle.elf_model.specs.Link.Loading.{LoadedObject}
use Rattle.elf_model.specs.Link.Meaning.{Common, Linker, Meaning, Symbol, meaning_name, meant, object_meaning}
use Rattle.elf_model.specs.Inputs.ObjectFile.{symbols}
use Rattle.elf_model.specs.Own.OwnLayout.{IsNotTooLarge, own_in_load_order, own_placed, placed_end}
use Rattle.elf_model.specs.Link.Pieces.{AreLawfulKinds, Piece, is_alloc, kept_sections}
use Rattle.elf_model.specs.Link.Placement.{Placed, is_of_section}
use Rattle.elf_model.specs.Link.Resolution.{AreSoundSymbols, IsSoundSymbol, SymbolOf, all_symbols, binding, chosen, has_name, is_common, is_global, is_placed_symbol, is_undefined, is_weak, section_of, sections_of_object, symbol_of, symbols_from, symbols_of}
use Rattle.elf_model.specs.declared.bound.Bound.{Bound}
use Rattle.elf_model.specs.declared.records.SectionHeader.{SectionHeader}
use Rattle.elf_model.specs.declared.records.Symbol as record_symbol
use Rattle.elf_model.proofs.Blocks.{block_pieces-object}
use Rattle.elf_model.proofs.ChosenSymbols.{chosen_listed}
use Rattle.elf_model.proofs.Finding.{find-found}
use Rattle.elf_model.proofs.Listed.{All-from_contains, Contains-from_filter, Contains-from_map}
use Rattle.elf_model.proofs.Places.{at_own_address, own_listed}
use Rattle.elf_model.proofs.RisingNames.{all_found}
use Rattle.elf_model.proofs.Sectioned.{kept-each}
use Rattle.image_write.specs.Maps.{LiesBelow, LiesWithin}

-- the header of a kept section is that of its section in its object
abbrev HasHeader : List LoadedObject → Piece → Type 0
HasHeader objects p = (slice_get (sections_of_object (slice_get objects p.object)) p.section ≡ Some p.header) × (p.size ≡ p.header.sh_size)

headers : (objects : List LoadedObject) → All (HasHeader objects) (kept_sections objects)
headers objects =
    kept-each (HasHeader objects) objects
    (λ k o there i h within.
    (ap (λ (x : Option LoadedObject). slice_get (sections_of_object x) i) there ∙ within, refl))

-- a symbol is of an object that is loaded, so its section is no common block
abbrev IsBelow : ℕ → SymbolOf → Type 0
IsBelow n s = s.object < n

symbols_from-below : (k : ℕ) (o : LoadedObject) (i : ℕ) (ss : List record_symbol.Symbol) → All (IsBelow (k + 1)) (symbols_from k o i ss)
symbols_from-below k o i [] = All-nil (IsBelow (k + 1))
symbols_from-below k o i (s ∷ ss) =
    All-cons (IsBelow (k + 1)) (symbol_of k o i s) (symbols_from k o (i + 1) ss) (omega arith) (symbols_from-below k o (i + 1) ss)

symbols_of-below : (k : ℕ) (os : List LoadedObject) → All (IsBelow (k + length os)) (symbols_of k os)
symbols_of-below k [] = All-nil (IsBelow (k + 0))
symbols_of-below k (o ∷ os) =
    let here : List SymbolOf = symbols_from k o 0 (symbols o.bytes) in
    let rest : List SymbolOf = symbols_of (k + 1) os in
    All-append (IsBelow (k + length (o ∷ os))) here rest
    (All-weaker (IsBelow (k + 1)) (IsBelow (k + length (o ∷ os))) (λ s n. omega (arith, n)) here (symbols_from-below k o 0 (symbols o.bytes)))
    (All-weaker (IsBelow ((k + 1) + length os)) (IsBelow (k + length (o ∷ os))) (λ s n. omega (arith, n)) rest (symbols_of-below (k + 1) os))

-- a definition is GLOBAL or WEAK, not undefined, and in no dropped section
visible : (s : SymbolOf) → is_definition s ≡ true → 1 ≤ binding s.entry
visible s defines = grind (arith, nat_tests)

defined : (s : SymbolOf) → is_definition s ≡ true → is_undefined s.entry ≡ false
defined s defines = grind (arith, nat_tests)

present : (s : SymbolOf) → is_definition s ≡ true → s.dropped ≡ false
present s defines = by (is_global s.entry) (is_weak s.entry) (is_placed_symbol s.entry) (is_common s.entry) s.dropped defines
  where
    never : (a b : Bool) → (a && (b && false)) ≡ false
    never true true = refl
    never true false = refl
    never false b = refl

    by :
        (global weak placed common dropped : Bool) →
        (global && (placed && not dropped) || (global && (common && not dropped) || weak && (placed && not dropped))) ≡ true → dropped ≡ false
    by g w p c false is = refl
    by g w p c true is =
        absurd
        (false≢true
        (sym
        (ap (λ x. x || (g && (c && false) || w && (p && false))) (never g p)
        ∙ ap (λ x. x || w && (p && false)) (never g c)
        ∙ never w p)
        ∙ is))

-- the symbol that a name means
abbrev symbol_in : Option Meaning → Option SymbolOf
symbol_in None = None
symbol_in (Some (Symbol s)) = Some s
symbol_in (Some (Common b)) = None
symbol_in (Some (Linker name bound)) = None

module _ (objects : List LoadedObject) (n : List ℕ) where
  linkers_none : (b : Bool) (o : Option Bound) → symbol_in (cond b (option_map (Linker n) o) None) ≡ None
  linkers_none true None = refl
  linkers_none true (Some bound) = refl
  linkers_none false o = refl

  block_none : (b : Option Block) (o : Option Bound) → symbol_in (option_or (option_map Common b) (option_map (Linker n) o)) ≡ None
  block_none None None = refl
  block_none None (Some bound) = refl
  block_none (Some b) o = refl

  -- where a name means a symbol, that is the chosen one
  meant_is : (t s : SymbolOf) (o : Option Bound) → symbol_in (option_or (meant objects t) (option_map (Linker n) o)) ≡ Some s → t ≡ s
  meant_is t s o = by (is_common_symbol t)
    where
      by :
          (b : Bool) →
          symbol_in (option_or (cond b (option_map Common (block_named objects t.name)) (Some (Symbol t))) (option_map (Linker n) o)) ≡ Some s →
          t ≡ s
      by true e = absurd (none-some s (sym (block_none (block_named objects t.name) o) ∙ e))
      by false e = same_Some t s e

  listed_chosen : (s : SymbolOf) → listed objects n ≡ Some (Symbol s) → chosen objects n ≡ Some s
  listed_chosen s is = by (chosen objects n) (ap symbol_in is)
    where
      by :
          (o : Option SymbolOf) →
          symbol_in (cond (is_some o || is_used objects n) (option_or (option_and_then (meant objects) o) (option_map (Linker n) (bound_of objects n))) None)
          ≡ Some s →
          o ≡ Some s
      by None e = absurd (none-some s (sym (linkers_none (is_used objects n) (bound_of objects n)) ∙ e))
      by (Some t) e = ap (λ (x : SymbolOf). Some x) (meant_is t s (bound_of objects n) e)

  meaning_chosen : (s : SymbolOf) → object_meaning objects n ≡ Some (Symbol s) → chosen objects n ≡ Some s
  meaning_chosen s is = by (chosen objects n) is
    where
      by : (o : Option SymbolOf) → option_and_then (meant objects) o ≡ Some (Symbol s) → o ≡ Some s
      by None e = absurd (none-some (Symbol s) e)
      by (Some t) e =
          ap (λ (x : SymbolOf). Some x) (meant_is t s None (ap (λ (m : Option Meaning). symbol_in (option_or m None)) e))

module _ (base : ℕ) (objects : List LoadedObject) (kinds : AreLawfulKinds objects) (fits : IsNotTooLarge base objects) where
  -- the piece that stands for a section of an object that is loaded has that section's header
  headed :
      (s : SymbolOf) (p : Piece) → s.object < length objects → p.object ≡ s.object →
      Contains (kept_sections objects) p ⊎ Contains (block_pieces objects) p → HasHeader objects p
  headed s p loaded o (inl kept) = All-contains (HasHeader objects) (kept_sections objects) p (headers objects) kept
  headed s p loaded o (inr block) =
      let past = All-contains (λ (q : Piece). q.object ≡ length objects) (block_pieces objects) p (block_pieces-object objects) block in
      absurd (omega (arith, past, o, loaded))

  -- a definition that is sound, where its section is placed at an address
  below :
      (s : SymbolOf) (q : Placed) → s.object < length objects → is_undefined s.entry ≡ false → s.dropped ≡ false → 1 ≤ binding s.entry →
      IsSoundSymbol objects s → find (is_of_section s.object s.entry.st_shndx) (own_in_load_order base objects) ≡ Some q →
      q.at + s.entry.st_value ≤ 2 ^ 46
  below s q loaded defined kept global sound found =
      let f = find-found (is_of_section s.object s.entry.st_shndx) (own_in_load_order base objects) q found in
      let parts = and_parts (q.piece.object == s.object) (q.piece.section == s.entry.st_shndx) f.passes in
      let o = eqb-true q.piece.object s.object parts.0 in
      let k = eqb-true q.piece.section s.entry.st_shndx parts.1 in
      let mapped = Contains-from_map (at_own_address base objects) (pieces objects) q f.there in
      let piece_is : mapped.of ≡ q.piece = ap (λ (r : Placed). r.piece) mapped.is in
      let there : Contains (pieces objects) q.piece = subst (Contains (pieces objects)) piece_is mapped.there in
      let header : HasHeader objects q.piece =
      headed s q.piece loaded o (Contains-append_cases (kept_sections objects) (block_pieces objects) q.piece there) in
      let section_is : section_of objects s ≡ Some q.piece.header =
      ap (λ (b : Bool). cond b None (slice_get (sections_of_object (slice_get objects s.object)) s.entry.st_shndx)) defined
      ∙ (ap (λ (n : ℕ). slice_get (sections_of_object (slice_get objects n)) s.entry.st_shndx) (sym o)
      ∙ (ap (λ (n : ℕ). slice_get (sections_of_object (slice_get objects q.piece.object)) n) (sym k) ∙ header.0)) in
      let alloc : is_alloc q.piece.header ≡ true =
      subst (λ (h : Option SectionHeader). IfSome h (λ g. is_alloc g ≡ true)) section_is (sound.kept global kept) in
      let within : s.entry.st_value ≤ q.piece.header.sh_size =
      subst (λ (h : Option SectionHeader). IfSome h (λ g. is_alloc g ≡ true → s.entry.st_value ≤ g.sh_size)) section_is (sound.within kept) alloc in
      let end : placed_end q ≤ 2 ^ 46 = All-contains (λ (r : Placed). placed_end r ≤ 2 ^ 46) (own_placed base objects) q fits.ends (own_listed base objects kinds q f.there) in
      let size = header.1 in
      omega (arith, within, end, size)

  lies : (s : SymbolOf) → s.object < length objects → is_definition s ≡ true → IsSoundSymbol objects s → LiesBelow (own_in_load_order base objects) s
  lies s loaded defines sound = by (find (is_of_section s.object s.entry.st_shndx) (own_in_load_order base objects)) refl
    where
      by :
          (f : Option Placed) → find (is_of_section s.object s.entry.st_shndx) (own_in_load_order base objects) ≡ f →
          IfSome (option_map (λ q. q.at) f) (λ at. at + s.entry.st_value ≤ 2 ^ 46)
      by None e = tt
      by (Some q) e = below s q loaded (defined s defines) (present s defines) (visible s defines) sound e

  module _ (sound : AreSoundSymbols objects) where
    pub all_lie : All (LiesBelow (own_in_load_order base objects)) (chosen_symbols objects)
    all_lie =
        All-from_contains (LiesBelow (own_in_load_order base objects)) (chosen_symbols objects) (λ s c.
        let defines = Contains-from_filter is_definition (all_symbols objects) s (Contains-from_filter (is_chosen objects) (definitions objects) s c).0 in
        let loaded = All-contains (IsBelow (0 + length objects)) (all_symbols objects) s (symbols_of-below 0 objects) defines.0 in
        lies s (omega (arith, loaded)) defines.1
        (All-contains (IsSoundSymbol objects) (all_symbols objects) s sound defines.0))

    chosen_lies : (name : List ℕ) (s : SymbolOf) → chosen objects name ≡ Some s → LiesBelow (own_in_load_order base objects) s
    chosen_lies name s is =
        All-contains (LiesBelow (own_in_load_order base objects)) (chosen_symbols objects) s all_lie
        (find-found (has_name name) (chosen_symbols objects) s (chosen_listed objects name ∙ is)).there

    -- what a name means that has a line, and what the entry means
    pub meanings_lie : (ms : List Meaning) → AreListed objects ms → All (LiesWithin (own_in_load_order base objects)) ms
    meanings_lie ms are = All-from_contains (LiesWithin (own_in_load_order base objects)) ms (λ m c. by m (found m c))
      where
        found : (m : Meaning) → Contains ms m → listed objects (meaning_name m) ≡ Some m
        found m c =
            sym (are.found (meaning_name m))
            ∙ All-contains (λ (y : Meaning). has_meaning (meaning_name m) y ≡ true → find (has_meaning (meaning_name m)) ms ≡ Some y) ms m
            (all_found (has_meaning (meaning_name m)) ms (are.once (meaning_name m))) c
            ((bytes_eq-Decides (meaning_name m) (meaning_name m)).1 refl)

        by : (m : Meaning) → listed objects (meaning_name m) ≡ Some m → LiesWithin (own_in_load_order base objects) m
        by (Symbol s) is = chosen_lies s.name s (listed_chosen objects s.name s is)
        by (Common b) is = tt
        by (Linker name bound) is = tt

    pub entry_lies : (name : List ℕ) (m : Meaning) → object_meaning objects name ≡ Some m → LiesWithin (own_in_load_order base objects) m
    entry_lies name (Symbol s) is = chosen_lies name s (meaning_chosen objects name s is)
    entry_lies name (Common b) is = tt
    entry_lies name (Linker n bound) is = tt
