-- The entry of a link that the profile's check accepts is right for a judge: what it names is placed.
use Rattle.std.proofs.Common.{◌∙◌, ap, arith, get_or, inl, inr, refl, subst, sym}
use Rattle.std.specs.Prelude.{◌≡◌, ◌⊎◌, ◌+◌, ◌<◌, ◌≤◌, ◌&&◌, ℕ, zero, suc, Bool, true, false, not, List, [], ◌∷◌, Option, None, Some, IfSome, IsSomeAnd, All, Contains, cond, filter, find, is_some, length, option_map, unwrap_or}
use Rattle.std.specs.List.{slice_get}
use Rattle.std.specs.Option.{option_and_then, option_or}
use Rattle.std.proofs.lemmas.Bool.{and_from, and_parts, eq-eqb, eqb-true, false≢true, not-true}
use Rattle.std.proofs.lemmas.List.Elements.{All-append, All-cons, All-contains, All-nil, Contains-append_left, Contains-append_right}
use Rattle.std.proofs.lemmas.List.FromFn.{length-map-range_with_len}
use Rattle.std.proofs.lemmas.List.{length-map}
use Rattle.std.proofs.lemmas.Option.{none-some, same_Some, slice_get-get_or}
use Rattle.elf_model.proofs.Finding.{find-found}
use Rattle.elf_model.proofs.Listed.{Contains-from_filter, Contains-from_slice_get, Contains-here, Contains-map, Contains-nil, Contains-there, Contains-cons_cases}
use Rattle.elf_model.specs.Image.MapRecord.{PlaceRow}
use Rattle.elf_model.specs.Image.RightLink as right
use Rattle.elf_model.specs.Image.RightLink.{SectionFacts, Subject, facts_of_piece, facts_of_row}
use Rattle.elf_model.specs.Inputs.ObjectFile.{IsGoodSymbol, IsObject, null_section, sections, symbols}
use Rattle.elf_model.specs.Inputs.Records.{file_header}
use Rattle.elf_model.specs.Link.Loading.{LoadedObject, is_dropped}
use Rattle.elf_model.specs.Link.Pieces.{Piece, is_alloc, is_kept, kept_sections, piece_of, pieces_from, pieces_of}
use Rattle.elf_model.specs.Link.Placement.{Placed, is_of_section, placed_block, placed_blocks, placed_by, symbol_value}
use Rattle.elf_model.specs.Link.Resolution.{IsSoundSymbol, SymbolOf, all_symbols, binding, chosen, common_symbols, has_name, is_absolute, is_common, is_common_definition, is_global, is_in_thread_section, is_placed_symbol, is_strong, is_undefined, is_weak, is_weak_definition, section_of, strong_definitions, weak_definitions, sections_of_object, symbol_of, symbols_from, symbols_of}
use Rattle.elf_model.specs.declared.records.SectionHeader.{SectionHeader}
use Rattle.elf_model.specs.declared.records.Symbol.{Symbol}
use Rattle.elf_model.specs.Link.Commons.{Block, block_named, blocks, is_block_of, is_common_symbol}
use Rattle.elf_model.specs.Link.Meaning.{Common, Meaning, Symbol as OfSymbol, meaning_value, meant, object_meaning}
use Rattle.elf_model.specs.declared.constants.TheConstants.{SHN_ABS, SHN_COMMON}
use Rattle.elf_model.specs.declared.verdict.Clause.{Clause}
use Rattle.elf_model.specs.declared.verdict.Clause.TheVariants.{C2, C3, C12, C13}
use Rattle.judge_model.specs.Means as foreign
use Rattle.judge_model.specs.RightForeign.{EntersRight}
use Rattle.judge_law.specs.Conservative.{foreign_of}
use Rattle.judge_law.proofs.SameParts.{AreInOrder, placed_same, some_of}

-- A kept section is among the pieces.
from_there :
    (n : ℕ) (o : LoadedObject) (j : ℕ) (hs : List SectionHeader) (i : ℕ) (h : SectionHeader) → slice_get hs i ≡ Some h
    → is_kept o (j + i) h ≡ true → Contains (pieces_from n o j hs) (piece_of n o.bytes (j + i) h)
from_there n o j [] i h at kept = absurd (none-some h at)
from_there n o j (g ∷ hs) zero h at kept =
    let same : h ≡ g = sym (same_Some g h at) in
    let here : j + 0 ≡ j = omega arith in
    let k : is_kept o j g ≡ true = subst (λ m. is_kept o m g ≡ true) here (subst (λ (x : SectionHeader). is_kept o (j + 0) x ≡ true) same kept) in
    subst (λ m. Contains (pieces_from n o j (g ∷ hs)) (piece_of n o.bytes m h)) (sym here)
    (subst (λ (x : SectionHeader). Contains (pieces_from n o j (g ∷ hs)) (piece_of n o.bytes j x)) (sym same)
    (subst (λ b. Contains (cond b (piece_of n o.bytes j g ∷ pieces_from n o (j + 1) hs) (pieces_from n o (j + 1) hs)) (piece_of n o.bytes j g)) (sym k)
    (Contains-here (pieces_from n o (j + 1) hs) (piece_of n o.bytes j g))))
from_there n o j (g ∷ hs) (suc i) h at kept =
    let later : (j + 1) + i ≡ j + suc i = omega arith in
    let rest = from_there n o (j + 1) hs i h at (subst (λ m. is_kept o m h ≡ true) (sym later) kept) in
    by (is_kept o j g) (subst (λ m. Contains (pieces_from n o (j + 1) hs) (piece_of n o.bytes m h)) later rest)
  where
    by : (b : Bool) → Contains (pieces_from n o (j + 1) hs) (piece_of n o.bytes (j + suc i) h)
        → Contains (cond b (piece_of n o.bytes j g ∷ pieces_from n o (j + 1) hs) (pieces_from n o (j + 1) hs)) (piece_of n o.bytes (j + suc i) h)
    by true there = Contains-there (piece_of n o.bytes j g) (pieces_from n o (j + 1) hs) (piece_of n o.bytes (j + suc i) h) there
    by false there = there

of_there :
    (k : ℕ) (os : List LoadedObject) (m : ℕ) (o : LoadedObject) (p : Piece) → slice_get os m ≡ Some o
    → Contains (pieces_from (k + m) o 0 (sections o.bytes)) p → Contains (pieces_of k os) p
of_there k [] m o p at there = absurd (none-some o at)
of_there k (x ∷ os) zero o p at there =
    let here : k + 0 ≡ k = omega arith in
    Contains-append_left (pieces_from k x 0 (sections x.bytes)) (pieces_of (k + 1) os) p
    (subst (λ (y : LoadedObject). Contains (pieces_from k y 0 (sections y.bytes)) p) (sym (same_Some x o at))
    (subst (λ n. Contains (pieces_from n o 0 (sections o.bytes)) p) here there))
of_there k (x ∷ os) (suc m) o p at there =
    let later : k + suc m ≡ (k + 1) + m = omega arith in
    Contains-append_right (pieces_from k x 0 (sections x.bytes)) (pieces_of (k + 1) os) p
    (of_there (k + 1) os m o p at (subst (λ n. Contains (pieces_from n o 0 (sections o.bytes)) p) later there))

-- What is known of a symbol of the objects.
pub record IsSymbolAt (objects : List LoadedObject) (x : SymbolOf) : Type 0 where
  pub o : LoadedObject
  pub there : slice_get objects x.object ≡ Some o
  pub dropped_is : x.dropped ≡ is_dropped o x.entry.st_shndx
  pub entry : Contains (symbols o.bytes) x.entry

module _ (objects : List LoadedObject) where
  from_at :
      (n : ℕ) (o : LoadedObject) (j : ℕ) (ss : List Symbol) → slice_get objects n ≡ Some o
      → ((e : Symbol) → Contains ss e → Contains (symbols o.bytes) e) → All (IsSymbolAt objects) (symbols_from n o j ss)
  from_at n o j [] at within = All-nil (IsSymbolAt objects)
  from_at n o j (s ∷ ss) at within =
      All-cons (IsSymbolAt objects) (symbol_of n o j s) (symbols_from n o (j + 1) ss)
      (record { o = o; there = at; dropped_is = refl; entry = within s (Contains-here ss s) })
      (from_at n o (j + 1) ss at (λ e c. within e (Contains-there s ss e c)))

  of_at : (k : ℕ) (os : List LoadedObject) → ((m : ℕ) → slice_get os m ≡ slice_get objects (k + m)) → All (IsSymbolAt objects) (symbols_of k os)
  of_at k [] same = All-nil (IsSymbolAt objects)
  of_at k (o ∷ os) same =
      let here : k + 0 ≡ k = omega arith in
      All-append (IsSymbolAt objects) (symbols_from k o 0 (symbols o.bytes)) (symbols_of (k + 1) os)
      (from_at k o 0 (symbols o.bytes) (sym (same 0 ∙ ap (slice_get objects) here)) (λ e c. c))
      (of_at (k + 1) os (λ m. let later : k + suc m ≡ (k + 1) + m = omega arith in same (suc m) ∙ ap (slice_get objects) later))

  pub symbols_at : All (IsSymbolAt objects) (all_symbols objects)
  symbols_at = of_at 0 objects (λ m. let e : m ≡ 0 + m = omega arith in ap (slice_get objects) e)

-- The k-th section is placed by the k-th line.
placed_there :
    (rows : List PlaceRow) (ps : List Piece) (p : Piece) → length rows ≡ length ps → Contains ps p
    → (q : Placed) × Contains (placed_by rows ps) q × (q.piece ≡ p)
placed_there rows [] p same c = absurd (Contains-nil p c)
placed_there [] (x ∷ ps) p same c = absurd (omega (arith, same))
placed_there (row ∷ rows) (x ∷ ps) p same c = by (Contains-cons_cases x ps p c) (placed_there rows ps p (omega (arith, same)))
  where
    by : (x ≡ p) ⊎ Contains ps p → (Contains ps p → (q : Placed) × Contains (placed_by rows ps) q × (q.piece ≡ p))
        → (q : Placed) × Contains (placed_by (row ∷ rows) (x ∷ ps)) q × (q.piece ≡ p)
    by (inl e) rest = (record { at = row.address; piece = x }, Contains-here (placed_by rows ps) (record { at = row.address; piece = x }), e)
    by (inr there) rest =
        let r = rest there in
        (r.0, Contains-there (record { at = row.address; piece = x }) (placed_by rows ps) r.0 r.1, r.2)

-- What is chosen for a name is one of all symbols, and strong, common or weak.
among :
    (objects : List LoadedObject) (name : List ℕ) (kind : SymbolOf → Bool) (x : SymbolOf)
    → find (has_name name) (filter kind (all_symbols objects)) ≡ Some x → Contains (all_symbols objects) x × (kind x ≡ true)
among objects name kind x e =
    Contains-from_filter kind (all_symbols objects) x (find-found (has_name name) (filter kind (all_symbols objects)) x e).there

abbrev IsOfKind : SymbolOf → Type 0
IsOfKind x = (is_strong x ≡ true) ⊎ ((is_common_definition x ≡ true) ⊎ (is_weak_definition x ≡ true))

chosen_of : (objects : List LoadedObject) (name : List ℕ) (x : SymbolOf) → chosen objects name ≡ Some x → Contains (all_symbols objects) x × IsOfKind x
chosen_of objects name x e =
    by (find (has_name name) (strong_definitions objects)) (find (has_name name) (common_symbols objects)) refl refl e
  where
    by :
        (o p : Option SymbolOf) → find (has_name name) (strong_definitions objects) ≡ o → find (has_name name) (common_symbols objects) ≡ p
        → option_or o (option_or p (find (has_name name) (weak_definitions objects))) ≡ Some x → Contains (all_symbols objects) x × IsOfKind x
    by (Some y) p first second e = let a = among objects name is_strong x (first ∙ e) in (a.0, inl a.1)
    by None (Some y) first second e = let a = among objects name is_common_definition x (second ∙ e) in (a.0, inr (inl a.1))
    by None None first second e = let a = among objects name is_weak_definition x e in (a.0, inr (inr a.1))

-- one that isn't common stands in a section or is absolute, isn't dropped, and isn't LOCAL
pub record IsPlaceable (x : SymbolOf) : Type 0 where
  pub placed : is_placed_symbol x.entry ≡ true
  pub alive : x.dropped ≡ false
  pub bound : 1 ≤ binding x.entry

placeable : (x : SymbolOf) → is_common_symbol x ≡ false → IsOfKind x → IsPlaceable x
placeable x other (inl strong) =
    let a = and_parts (is_global x.entry) (is_placed_symbol x.entry && not x.dropped) strong in
    let b = and_parts (is_placed_symbol x.entry) (not x.dropped) a.1 in
    let n = eqb-true (binding x.entry) 1 a.0 in
    record { placed = b.0; alive = not-true x.dropped b.1; bound = omega (arith, n) }
placeable x other (inr (inl common)) =
    let a = and_parts (is_global x.entry) (is_common x.entry && not x.dropped) common in
    absurd (false≢true (sym other ∙ (and_parts (is_common x.entry) (not x.dropped) a.1).0))
placeable x other (inr (inr weak)) =
    let a = and_parts (is_weak x.entry) (is_placed_symbol x.entry && not x.dropped) weak in
    let b = and_parts (is_placed_symbol x.entry) (not x.dropped) a.1 in
    let n = eqb-true (binding x.entry) 2 a.0 in
    record { placed = b.0; alive = not-true x.dropped b.1; bound = omega (arith, n) }

-- numbers of what is found
found_value : (v : ℕ) (o : Option Placed) → is_some o ≡ true
    → option_map (λ a. a + v) (option_map (λ (q : Placed). q.at) o) ≡ Some (unwrap_or (option_map (λ (q : Placed). q.at + v) o) 0)
found_value v None some = absurd (false≢true some)
found_value v (Some q) some = refl

found_address : (o : Option Placed) → is_some o ≡ true
    → option_map (λ (q : Placed). q.at) o ≡ Some (unwrap_or (option_map (λ (q : Placed). q.at) o) 0)
found_address None some = absurd (false≢true some)
found_address (Some q) some = refl

module _ (s : Subject) (order : AreInOrder s) (holds : (c : Clause) → right.Holds c s) where
  abbrev os : List LoadedObject
  os = right.objects_of s

  -- the section of such a symbol is placed
  module _ (x : SymbolOf) (c : Contains (all_symbols os) x) (is : IsPlaceable x) (relative : is_absolute x.entry ≡ false) where
    at : IsSymbolAt os x
    at = All-contains (IsSymbolAt os) (all_symbols os) x (symbols_at os) c

    abbrev bytes : List ℕ
    bytes = at.o.bytes

    object : IsObject bytes
    object = All-contains (λ (o : LoadedObject). IsObject o.bytes) os at.o (holds C2).objects (Contains-from_slice_get os x.object at.o at.there)

    parts : (not (is_undefined x.entry) ≡ true) × (not (is_common x.entry) ≡ true)
    parts = and_parts (not (is_undefined x.entry)) (not (is_common x.entry)) is.placed

    low : x.entry.st_shndx < length (sections bytes)
    low = by (All-contains (IsGoodSymbol (file_header bytes).e_shnum) (symbols bytes) x.entry object.symbols.symbols.each at.entry).place
      where
        count : length (sections bytes) ≡ (file_header bytes).e_shnum
        count = length-map-range_with_len _ 0 (file_header bytes).e_shnum

        by :
            (x.entry.st_shndx < (file_header bytes).e_shnum) ⊎ (x.entry.st_shndx ≡ SHN_ABS) ⊎ (x.entry.st_shndx ≡ SHN_COMMON)
            → x.entry.st_shndx < length (sections bytes)
        by (inl n) = omega (arith, n, count)
        by (inr (inl a)) = absurd (false≢true (sym relative ∙ eq-eqb x.entry.st_shndx SHN_ABS a))
        by (inr (inr a)) = absurd (false≢true (sym (not-true (is_common x.entry) parts.1) ∙ eq-eqb x.entry.st_shndx SHN_COMMON a))

    abbrev h : SectionHeader
    h = get_or (sections bytes) x.entry.st_shndx null_section

    get : slice_get (sections bytes) x.entry.st_shndx ≡ Some h
    get = slice_get-get_or (sections bytes) x.entry.st_shndx null_section low

    section_is : section_of os x ≡ Some h
    section_is =
        ap (λ b. cond b None (slice_get (sections_of_object (slice_get os x.object)) x.entry.st_shndx)) (not-true (is_undefined x.entry) parts.0)
        ∙ ap (λ (o : Option LoadedObject). slice_get (sections_of_object o) x.entry.st_shndx) at.there
        ∙ get

    kept : is_kept at.o x.entry.st_shndx h ≡ true
    kept =
        and_from (is_alloc h) (not (is_dropped at.o x.entry.st_shndx))
        (subst (λ (o : Option SectionHeader). IfSome o (λ h. is_alloc h ≡ true)) section_is
        ((All-contains (IsSoundSymbol os) (all_symbols os) x (holds C13).sound c).kept is.bound is.alive))
        (ap not (sym at.dropped_is ∙ is.alive))

    abbrev p : Piece
    p = piece_of (0 + x.object) bytes (0 + x.entry.st_shndx) h

    p_there : Contains (kept_sections os) p
    p_there =
        let n : 0 + x.entry.st_shndx ≡ x.entry.st_shndx = omega arith in
        of_there 0 os x.object at.o p at.there
        (from_there (0 + x.object) at.o 0 (sections bytes) x.entry.st_shndx h get (subst (λ m. is_kept at.o m h ≡ true) (sym n) kept))

    lengths : length s.map.places ≡ length (kept_sections os)
    lengths =
        sym (length-map s.map.places facts_of_row) ∙ ap length (holds C3).places ∙ length-map (kept_sections os) facts_of_piece

    found : is_some (find (is_of_section x.object x.entry.st_shndx) (right.placed_of s)) ≡ true
    found =
        let q = placed_there s.map.places (kept_sections os) p lengths p_there in
        let n : 0 + x.object ≡ x.object = omega arith in
        let m : 0 + x.entry.st_shndx ≡ x.entry.st_shndx = omega arith in
        some_of (is_of_section x.object x.entry.st_shndx) (right.placed_of s) q.0
        (Contains-append_left (right.sections_of s) (placed_blocks s.map.commons (blocks os)) q.0 q.1)
        (and_from _ _ (eq-eqb _ _ (ap (λ (r : Piece). r.object) q.2 ∙ n)) (eq-eqb _ _ (ap (λ (r : Piece). r.section) q.2 ∙ m)))

  -- so is a common block
  block_found : (b : Block) → Contains (blocks os) b → is_some (find (is_of_section b.object b.number) (right.placed_of s)) ≡ true
  block_found b c =
      some_of (is_of_section b.object b.number) (right.placed_of s) (placed_block s.map.commons b)
      (Contains-append_right (right.sections_of s) (placed_blocks s.map.commons (blocks os)) (placed_block s.map.commons b)
      (Contains-map (placed_block s.map.commons) (blocks os) b c))
      (and_from _ _ (eq-eqb b.object b.object refl) (eq-eqb b.number b.number refl))

  -- the value that a definition has for the check is the one that it has for a judge
  symbol_right : (x : SymbolOf) → Contains (all_symbols os) x → IsPlaceable x → foreign.symbol_value (foreign_of s) x ≡ Some (symbol_value (right.placed_of s) x)
  symbol_right x c is = by (is_absolute x.entry) refl
    where
      by :
          (b : Bool) → is_absolute x.entry ≡ b
          → cond b (Some x.entry.st_value)
          (option_or (option_map (λ a. a + x.entry.st_value) (foreign.address_of (foreign_of s) x.object x.entry.st_shndx)) None)
          ≡ Some (cond b x.entry.st_value (unwrap_or (option_map (λ (q : Placed). q.at + x.entry.st_value) (find (is_of_section x.object x.entry.st_shndx) (right.placed_of s))) 0))
      by true e = refl
      by false e =
          ap (λ (qs : List Placed). option_or (option_map (λ a. a + x.entry.st_value) (option_map (λ (q : Placed). q.at) (find (is_of_section x.object x.entry.st_shndx) qs))) None)
          (placed_same s order holds)
          ∙ ap (λ (o : Option ℕ). option_or o None) (found_value x.entry.st_value (find (is_of_section x.object x.entry.st_shndx) (right.placed_of s)) (found x c is e))

  pub value_right : (name : List ℕ) (d : Meaning) → object_meaning os name ≡ Some d → foreign.value_of (foreign_of s) d ≡ Some (meaning_value (right.where_of s) d)
  value_right name d e = by (chosen os name) refl e
    where
      common_by : (b : Option Block) (n : List ℕ) → block_named os n ≡ b → option_map Common b ≡ Some d
          → foreign.value_of (foreign_of s) d ≡ Some (meaning_value (right.where_of s) d)
      common_by None n is e = absurd (none-some d e)
      common_by (Some b) n is e =
          subst (λ (m : Meaning). foreign.value_of (foreign_of s) m ≡ Some (meaning_value (right.where_of s) m)) (same_Some (Common b) d e)
          (ap (λ (qs : List Placed). option_map (λ (q : Placed). q.at) (find (is_of_section b.object b.number) qs)) (placed_same s order holds)
          ∙ found_address (find (is_of_section b.object b.number) (right.placed_of s)) (block_found b (find-found (is_block_of n) (blocks os) b is).there))

      meant_by : (x : SymbolOf) (b : Bool) → chosen os name ≡ Some x → is_common_symbol x ≡ b
          → cond b (option_map Common (block_named os x.name)) (Some (OfSymbol x)) ≡ Some d
          → foreign.value_of (foreign_of s) d ≡ Some (meaning_value (right.where_of s) d)
      meant_by x true is common e = common_by (block_named os x.name) x.name refl e
      meant_by x false is other e =
          let c = chosen_of os name x is in
          subst (λ (m : Meaning). foreign.value_of (foreign_of s) m ≡ Some (meaning_value (right.where_of s) m)) (same_Some (OfSymbol x) d e)
          (symbol_right x c.0 (placeable x other c.1))

      by : (o : Option SymbolOf) → chosen os name ≡ o → option_and_then (meant os) o ≡ Some d
          → foreign.value_of (foreign_of s) d ≡ Some (meaning_value (right.where_of s) d)
      by None is e = absurd (none-some d e)
      by (Some x) is e = meant_by x (is_common_symbol x) is refl e

  pub entry_right : EntersRight (foreign_of s)
  entry_right =
      subst (λ (os : List LoadedObject). IsSomeAnd (chosen os s.plan.entry) (λ x. is_in_thread_section os x ≡ false)
      × IsSomeAnd (object_meaning os s.plan.entry) (λ m. foreign.value_of (foreign_of s) m ≡ Some (file_header s.image).e_entry))
      (sym order)
      ((holds C12).0, by (object_meaning os s.plan.entry) refl (holds C12).1)
    where
      by : (o : Option Meaning) → object_meaning os s.plan.entry ≡ o
          → IsSomeAnd o (λ d. (file_header s.image).e_entry ≡ meaning_value (right.where_of s) d)
          → IsSomeAnd o (λ d. foreign.value_of (foreign_of s) d ≡ Some (file_header s.image).e_entry)
      by None is e = e
      by (Some d) is e = value_right s.plan.entry d is ∙ ap Some (sym e)
