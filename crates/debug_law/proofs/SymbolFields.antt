-- The symbols of an image for tools fit their fields, and their names have no NUL.
use Rattle.std.proofs.Common.{◌≡◌, ◌∙◌, ℕ, ◌+◌, ◌-◌, ◌%◌, ◌^◌, ◌<◌, ◌≤◌, List, [], ◌∷◌, arith, length, refl, subst, sym}
use Rattle.std.specs.Prelude.{All, Bool, Contains, None, Option, Some, cond, false, find, is_some, map, not, option_map, true, unwrap_or, ◌==◌, ◌||◌}
use Rattle.std.specs.List.{cons_option, filter_map}
use Rattle.std.specs.Option.{option_and_then, option_or}
use Rattle.std.specs.Str.{bytes_eq}
use Rattle.std.proofs.lemmas.Bool.{and_parts}
use Rattle.std.proofs.lemmas.Nat.{mod_below}
use Rattle.std.proofs.lemmas.List.Elements.{All-append, All-cons, All-contains, All-filter, All-head, All-map, All-nil, All-tail, All-weaker}
use Rattle.std.proofs.lemmas.List.Folds.{Any-from_list_any}
use Rattle.std.proofs.lemmas.Option.{none-some, same_Some}
use Rattle.std.proofs.lemmas.Slice.Eq.{bytes_eq-Decides}
use Rattle.elf_model.specs.Image.MapText.{AreBytes}
use Rattle.elf_model.specs.Inputs.ObjectFile.{rela_symbol, symbols}
use Rattle.elf_model.specs.Inputs.Records.{FitsSymbol}
use Rattle.elf_model.specs.Link.ChosenSymbols.{chosen_symbols, definitions, is_chosen, is_definition}
use Rattle.elf_model.specs.Link.Commons.{Block, block_named, block_of, block_symbols, blocks, commons_named, greatest, is_block_of, is_common_symbol}
use Rattle.elf_model.specs.Link.LinkerNames.{bound_of, named_output}
use Rattle.elf_model.specs.Link.LinkerValues.{bound_value, end_of_pieces, is_code_piece, is_file_data, is_loaded_piece, is_zero_data, start_of_pieces}
use Rattle.elf_model.specs.Link.Listing.{AreListed, is_use_of, is_used, listed}
use Rattle.elf_model.specs.Link.Loading.{LoadedObject}
use Rattle.elf_model.specs.Link.Meaning.{Common, Linker, Meaning, Symbol, meaning_name, meant}
use Rattle.elf_model.specs.Link.Pieces.{AreLawfulKinds, Piece, is_of_output, is_thread_local}
use Rattle.elf_model.specs.Link.Placement.{Placed, got_end, got_start, is_of_section}
use Rattle.elf_model.specs.Link.Relocation.{Relocation, is_local, relocations}
use Rattle.elf_model.specs.Link.Resolution.{SymbolOf, all_symbols, binding, chosen, common_symbols, has_name, is_absolute, is_common_definition, symbols_from, symbols_of}
use Rattle.elf_model.specs.Link.Slots.{has_got}
use Rattle.elf_model.specs.Own.OwnLayout.{IsNotTooLarge, got_line_of, got_piece, got_pieces, own_address, own_in_load_order, own_placed, own_where, placed_end}
use Rattle.elf_model.specs.declared.bound.Bound.{Bound}
use Rattle.elf_model.specs.declared.bound.Bound.TheVariants.{CodeEnd, DataEnd, GotStart, ImageEnd, ImageStart, OutputEnd, OutputStart, ZeroStart}
use Rattle.elf_model.specs.declared.constants.TheConstants.{STB_LOCAL}
use Rattle.elf_model.specs.declared.records.Symbol as entry
use Rattle.elf_model.proofs.Blocks.{blocks-each}
use Rattle.elf_model.proofs.ChosenSymbols.{chosen_listed}
use Rattle.elf_model.proofs.Finding.{find-found}
use Rattle.elf_model.proofs.Listed.{All-from_contains, Contains-from_filter, Contains-here}
use Rattle.elf_model.proofs.PieceBounds.{EndsBy, IsStart, end_by, start_is}
use Rattle.elf_model.proofs.Places.{got_listed, own_listed}
use Rattle.elf_model.proofs.Sectioned.{relocations-each}
use Rattle.elf_model.proofs.TableLaws.{listed_again}
use Rattle.debug_image.specs.LongNames.{has_long_names}
use Rattle.debug_image.specs.Sections.{blocks_number, section_number}
use Rattle.debug_image.specs.Symbols.{Laid, absolute_row, address_of, block_entry, block_row, index_of, is_wanted, linker_row, local_row, local_rows, meaning_row, meaning_rows, object_rows, own_rows, placed_row, row_at, row_in, rows_from, symbol_piece, symbol_row, value_at}
use Rattle.debug_image.specs.Symbols.{thread_start as laid_start}
use Rattle.debug_image.specs.Tables.{Row}
use Rattle.debug_law.proofs.ObjectFields.{IsText, symbol_named, symbols_fit}

-- a symbol of an object
pub record IsSaid (s : SymbolOf) : Type 0 where
  pub fits : FitsSymbol s.entry
  pub name : IsText s.name

from_said : (k : ℕ) (o : LoadedObject) (j : ℕ) (ss : List entry.Symbol) → All FitsSymbol ss → All IsSaid (symbols_from k o j ss)
from_said k o j [] fit = All-nil IsSaid
from_said k o j (s ∷ ss) fit =
    All-cons IsSaid _ (symbols_from k o (j + 1) ss) (record { fits = All-head FitsSymbol s ss fit; name = symbol_named o.bytes j })
    (from_said k o (j + 1) ss (All-tail FitsSymbol s ss fit))

pub own_said : (k : ℕ) (o : LoadedObject) → AreBytes o.bytes → All IsSaid (symbols_from k o 0 (symbols o.bytes))
own_said k o are = from_said k o 0 (symbols o.bytes) (symbols_fit o.bytes are)

of_said : (k : ℕ) (os : List LoadedObject) → All (λ o. AreBytes o.bytes) os → All IsSaid (symbols_of k os)
of_said k [] are = All-nil IsSaid
of_said k (o ∷ os) are =
    All-append IsSaid (symbols_from k o 0 (symbols o.bytes)) (symbols_of (k + 1) os) (own_said k o (All-head (λ (x : LoadedObject). AreBytes x.bytes) o os are))
    (of_said (k + 1) os (All-tail (λ (x : LoadedObject). AreBytes x.bytes) o os are))

-- the greatest of numbers below a limit is below that
greatest_below : (n : ℕ) (xs : List ℕ) → 0 < n → All (λ x. x < n) xs → greatest xs < n
greatest_below n [] some all = some
greatest_below n (x ∷ xs) some all =
    let here = All-head (λ y. y < n) x xs all in
    let rest = greatest_below n xs some (All-tail (λ y. y < n) x xs all) in
    omega (arith, here, rest)

-- a common block
pub record IsSaidBlock (b : Block) : Type 0 where
  pub size : b.size < 2 ^ 64
  pub align : b.align < 2 ^ 64
  pub name : IsText b.name

-- what a name means
abbrev pub IsSaidMeaning : Meaning → Type 0
IsSaidMeaning (Symbol s) = IsSaid s
IsSaidMeaning (Common b) = IsSaidBlock b
IsSaidMeaning (Linker name bound) = IsText name

module _ (objects : List LoadedObject) (bytes : All (λ o. AreBytes o.bytes) objects) where
  all_said : All IsSaid (all_symbols objects)
  all_said = of_said 0 objects bytes

  chosen_said : (s : SymbolOf) → Contains (chosen_symbols objects) s → IsSaid s
  chosen_said s c =
      All-contains IsSaid (all_symbols objects) s all_said
      (Contains-from_filter is_definition (all_symbols objects) s (Contains-from_filter (is_chosen objects) (definitions objects) s c).0).0

  commons_said : (name : List ℕ) → All IsSaid (commons_named objects name)
  commons_said name = All-filter (has_name name) IsSaid (common_symbols objects) (All-filter is_common_definition IsSaid (all_symbols objects) all_said)

  pub block_said : (k : ℕ) (s : SymbolOf) → Contains (block_symbols objects) s → IsSaidBlock (block_of objects k s)
  block_said k s c =
      let size =
      greatest_below (2 ^ 64) (map (λ t. t.entry.st_size) (commons_named objects s.name)) (omega arith)
      (All-map (λ n. n < 2 ^ 64) (λ t. t.entry.st_size) (commons_named objects s.name)
      (All-weaker IsSaid (λ t. t.entry.st_size < 2 ^ 64) (λ t said. said.fits.st_size) (commons_named objects s.name) (commons_said s.name))) in
      let align =
      greatest_below (2 ^ 64) (map (λ t. t.entry.st_value) (commons_named objects s.name)) (omega arith)
      (All-map (λ n. n < 2 ^ 64) (λ t. t.entry.st_value) (commons_named objects s.name)
      (All-weaker IsSaid (λ t. t.entry.st_value < 2 ^ 64) (λ t said. said.fits.st_value) (commons_named objects s.name) (commons_said s.name))) in
      record {
        size = size;
        align = omega (arith, align);
        name = (chosen_said s (Contains-from_filter is_common_symbol (chosen_symbols objects) s c).0).name;
      }

  blocks_said : All IsSaidBlock (blocks objects)
  blocks_said = blocks-each objects IsSaidBlock block_said

  -- the chosen definition of a name has the name
  found_said : (name : List ℕ) (s : SymbolOf) → chosen objects name ≡ Some s → IsSaid s × (s.name ≡ name)
  found_said name s is =
      let f = find-found (has_name name) (chosen_symbols objects) s (chosen_listed objects name ∙ is) in
      (chosen_said s f.there, (bytes_eq-Decides s.name name).0 f.passes)

  -- a name that a relocation uses is one of a symbol
  used_text : (name : List ℕ) → is_used objects name ≡ true → IsText name
  used_text name used =
      let any = Any-from_list_any (is_use_of name) (relocations objects) used in
      let named =
      relocations-each (λ (r : Relocation). IsText r.symbol.name) objects (λ k o there i h r entry. symbol_named o.bytes (rela_symbol r)) in
      let same = (bytes_eq-Decides any.1.symbol.name name).0 (and_parts (not (is_local any.1.symbol)) (bytes_eq any.1.symbol.name name) any.4).1 in
      subst IsText same (All-contains (λ (r : Relocation). IsText r.symbol.name) (relocations objects) any.1 named (any.0, any.2, any.3))

  block_named_said : (name : List ℕ) (b : Block) → block_named objects name ≡ Some b → IsSaidBlock b
  block_named_said name b found = All-contains IsSaidBlock (blocks objects) b blocks_said (find-found (is_block_of name) (blocks objects) b found).there

  listed_said : (n : List ℕ) (m : Meaning) → listed objects n ≡ Some m → IsSaidMeaning m
  listed_said n m is = by (chosen objects n) refl (is_used objects n) refl (bound_of objects n) is
    where
      linker : (b : Bound) → Some (Linker n b) ≡ Some m → IsText n → IsSaidMeaning m
      linker b e text = subst IsSaidMeaning (same_Some (Linker n b) m e) text

      common :
          (s : SymbolOf) → IsSaid s × (s.name ≡ n) → (c : Bool) (o : Option Block) → block_named objects s.name ≡ o → (b : Option Bound) →
          option_or (cond c (option_map Common o) (Some (Symbol s))) (option_map (Linker n) b) ≡ Some m → IsSaidMeaning m
      common s said true None f None e = absurd (none-some m e)
      common s said true None f (Some b) e = linker b e (subst IsText said.1 said.0.name)
      common s said true (Some x) f b e = subst IsSaidMeaning (same_Some (Common x) m e) (block_named_said s.name x f)
      common s said false o f b e = subst IsSaidMeaning (same_Some (Symbol s) m e) said.0

      by :
          (o : Option SymbolOf) → chosen objects n ≡ o → (used : Bool) → is_used objects n ≡ used → (b : Option Bound) →
          cond (is_some o || used) (option_or (option_and_then (meant objects) o) (option_map (Linker n) b)) None ≡ Some m → IsSaidMeaning m
      by None c true u None e = absurd (none-some m e)
      by None c true u (Some b) e = linker b e (used_text n u)
      by None c false u b e = absurd (none-some m e)
      by (Some s) c used u b e = common s (found_said n s c) (is_common_symbol s) (block_named objects s.name) refl b e

  pub meanings_said : (ms : List Meaning) → AreListed objects ms → All IsSaidMeaning ms
  meanings_said ms are =
      All-weaker (λ m. listed objects (meaning_name m) ≡ Some m) IsSaidMeaning (λ m. listed_said (meaning_name m) m) ms (listed_again objects ms are)

-- What is placed ends low, so what the linker's names stand for is low.
module _ (base : ℕ) (objects : List LoadedObject) (kinds : AreLawfulKinds objects) (fits : IsNotTooLarge base objects) where
  abbrev IsLowPlace : Placed → Type 0
  IsLowPlace q = placed_end q ≤ 2 ^ 46

  pub low_places : All IsLowPlace (own_in_load_order base objects)
  low_places =
      All-from_contains IsLowPlace (own_in_load_order base objects) (λ q c.
      All-contains IsLowPlace (own_placed base objects) q fits.ends (own_listed base objects kinds q c))

  ends_low : (test : Piece → Bool) → end_of_pieces test (own_in_load_order base objects) ≤ 2 ^ 46
  ends_low test =
      end_by test (2 ^ 46) (own_in_load_order base objects)
      (All-weaker IsLowPlace (EndsBy test (2 ^ 46)) (λ q low t. low) (own_in_load_order base objects) low_places)

  begin_low : (test : Piece → Bool) (o : Option ℕ) → IsStart test o (own_in_load_order base objects) → unwrap_or o 0 ≤ 2 ^ 46
  begin_low test None none = omega arith
  begin_low test (Some a) start =
      let q = start.1.0 in
      let low = All-contains IsLowPlace (own_in_load_order base objects) q low_places start.1.1 in
      let at = start.1.3 in
      omega (arith, low, at)

  begins_low : (test : Piece → Bool) → unwrap_or (start_of_pieces test (own_in_load_order base objects)) 0 ≤ 2 ^ 46
  begins_low test = begin_low test (start_of_pieces test (own_in_load_order base objects)) (start_is test (own_in_load_order base objects))

  abbrev got_at : Placed
  got_at = record { at = own_address base objects (got_piece objects); piece = got_piece objects }

  got_low : (b : Bool) → has_got objects ≡ b → (got_end (cond b (Some (got_line_of base objects)) None) ≤ 2 ^ 46) × (got_start (cond b (Some (got_line_of base objects)) None) ≤ 2 ^ 46)
  got_low true has =
      let here : Contains (got_pieces objects) (got_piece objects) =
      subst (λ (t : Bool). Contains (cond t (got_piece objects ∷ []) []) (got_piece objects)) (sym has) (Contains-here [] (got_piece objects)) in
      let low = All-contains IsLowPlace (own_placed base objects) got_at fits.ends (got_listed base objects kinds (got_piece objects) here) in
      (omega (arith, low), omega (arith, low))
  got_low false has = (omega arith, omega arith)

  pub bound_low : (name : List ℕ) (bound : Bound) → bound_value (own_where base objects) name bound ≤ 2 ^ 46
  bound_low name ImageStart = let h = fits.headers in omega (arith, h)
  bound_low name CodeEnd = ends_low is_code_piece
  bound_low name DataEnd = let e = ends_low is_file_data in let g = (got_low (has_got objects) refl).0 in omega (arith, e, g)
  bound_low name ZeroStart = begins_low is_zero_data
  bound_low name ImageEnd = let e = ends_low is_loaded_piece in let g = (got_low (has_got objects) refl).0 in omega (arith, e, g)
  bound_low name GotStart = (got_low (has_got objects) refl).1
  bound_low name OutputStart = begins_low (is_of_output (named_output name))
  bound_low name OutputEnd = ends_low (is_of_output (named_output name))

  pub address_low : (object number at : ℕ) → option_map (λ (q : Placed). q.at) (find (is_of_section object number) (own_in_load_order base objects)) ≡ Some at → at < 2 ^ 64
  address_low object number at is = by (find (is_of_section object number) (own_in_load_order base objects)) refl is
    where
      by : (o : Option Placed) → find (is_of_section object number) (own_in_load_order base objects) ≡ o → option_map (λ (q : Placed). q.at) o ≡ Some at → at < 2 ^ 64
      by None f e = absurd (none-some at e)
      by (Some q) f e =
          let low = All-contains IsLowPlace (own_in_load_order base objects) q low_places (find-found (is_of_section object number) (own_in_load_order base objects) q f).there in
          let same = same_Some q.at at e in
          omega (arith, low, same)

-- What is told of symbols fits its fields, and so do what becomes of an object's symbols and what names mean.
pub record IsSaidRow (r : Row) : Type 0 where
  pub fits : FitsSymbol r.entry
  pub name : IsText r.name

index_fits : (o : Option ℕ) → index_of o < 2 ^ 16
index_fits None = omega arith
index_fits (Some k) = mod_below (k + 1) (2 ^ 16) (omega arith)

placed_said : (name : List ℕ) (e : entry.Symbol) (number : Option ℕ) (value : ℕ) → FitsSymbol e → IsText name → value < 2 ^ 64 → IsSaidRow (placed_row name e number value)
placed_said name e number value fit text low = record {
  fits =
      record { st_name = omega arith; st_info = fit.st_info; st_other = fit.st_other; st_shndx = index_fits number; st_value = low; st_size = fit.st_size };
  name = text;
}

-- all that are given
pub all_of :
    {X : Type 0} (Q : X → Type 0) (P : Row → Type 0) (f : X → Option Row) → ((x : X) (r : Row) → Q x → f x ≡ Some r → P r) → (xs : List X) → All Q xs →
    All P (filter_map f xs)
all_of Q P f given [] all = All-nil P
all_of {X} Q P f given (x ∷ xs) all = with_one (f x) (filter_map f xs) (λ r. given x r (All-head Q x xs all)) (all_of Q P f given xs (All-tail Q x xs all))
  where
    with_one : (o : Option Row) (rs : List Row) → ((r : Row) → o ≡ Some r → P r) → All P rs → All P (cons_option o rs)
    with_one None rs own rest = rest
    with_one (Some r) rs own rest = All-cons P r rs (own r refl) rest

module _ (l : Laid) (kinds : AreLawfulKinds l.objects) (small : IsNotTooLarge l.base l.objects) where
  value_fits : (p : Piece) (at offset : ℕ) → value_at l p at offset < 2 ^ 64
  value_fits p at offset = by (is_thread_local p.header)
    where
      by : (b : Bool) → cond b ((at + offset) % 2 ^ 64 - laid_start l) ((at + offset) % 2 ^ 64) < 2 ^ 64
      by true = let m = mod_below (at + offset) (2 ^ 64) (omega arith) in omega (arith, m)
      by false = mod_below (at + offset) (2 ^ 64) (omega arith)

  row_said : (s : SymbolOf) (r : Row) → IsSaid s → symbol_row l s ≡ Some r → IsSaidRow r
  row_said s r said is = by (is_absolute s.entry) (address_of l s.object s.entry.st_shndx) is
    where
      at_piece : (at : ℕ) (o : Option Piece) → option_map (row_in l s at) o ≡ Some r → IsSaidRow r
      at_piece at None e = absurd (none-some r e)
      at_piece at (Some p) e =
          subst IsSaidRow (same_Some (row_in l s at p) r e)
          (placed_said s.name s.entry (section_number (length l.objects) l.sections p) (value_at l p at s.entry.st_value) said.fits said.name (value_fits p at s.entry.st_value))

      by : (b : Bool) (o : Option ℕ) → cond b (Some (absolute_row s.name s.entry)) (option_and_then (row_at l s) o) ≡ Some r → IsSaidRow r
      by true o e =
          let fit = said.fits in
          subst IsSaidRow (same_Some (absolute_row s.name s.entry) r e) (record {
            fits =
                record { st_name = omega arith; st_info = fit.st_info; st_other = fit.st_other; st_shndx = fit.st_shndx; st_value = fit.st_value; st_size = fit.st_size };
            name = said.name;
          })
      by false None e = absurd (none-some r e)
      by false (Some at) e = at_piece at (symbol_piece l.objects s) e

  local_said : (s : SymbolOf) (r : Row) → IsSaid s → local_row l s ≡ Some r → IsSaidRow r
  local_said s r said is = by (is_wanted s) is
    where
      by : (b : Bool) → cond b (symbol_row l s) None ≡ Some r → IsSaidRow r
      by true e = row_said s r said e
      by false e = absurd (none-some r e)

  module _ (bytes : All (λ o. AreBytes o.bytes) l.objects) where
    object_said : (k : ℕ) (o : LoadedObject) → AreBytes o.bytes → (b : Bool) → All IsSaidRow (cond b [] (own_rows l k o))
    object_said k o are true = All-nil IsSaidRow
    object_said k o are false = all_of IsSaid IsSaidRow (local_row l) local_said (symbols_from k o 0 (symbols o.bytes)) (own_said k o are)

    objects_said : (k : ℕ) (os : List LoadedObject) → All (λ o. AreBytes o.bytes) os → All IsSaidRow (rows_from l k os)
    objects_said k [] are = All-nil IsSaidRow
    objects_said k (o ∷ os) are =
        All-append IsSaidRow (object_rows l k o) (rows_from l (k + 1) os)
        (object_said k o (All-head (λ (x : LoadedObject). AreBytes x.bytes) o os are) (has_long_names o))
        (objects_said (k + 1) os (All-tail (λ (x : LoadedObject). AreBytes x.bytes) o os are))

    pub locals_said : All IsSaidRow (local_rows l)
    locals_said = objects_said 0 l.objects bytes

    block_row_said : (b : Block) (r : Row) → IsSaidBlock b → block_row l b ≡ Some r → IsSaidRow r
    block_row_said b r said is = by (address_of l b.object b.number) refl is
      where
        fit : FitsSymbol (block_entry b)
        fit = record { st_name = omega arith; st_info = omega arith; st_other = omega arith; st_shndx = omega arith; st_value = omega arith; st_size = said.size }

        by : (o : Option ℕ) → address_of l b.object b.number ≡ o → option_map (placed_row b.name (block_entry b) (blocks_number (length l.objects) l.sections)) o ≡ Some r → IsSaidRow r
        by None f e = absurd (none-some r e)
        by (Some at) f e =
            subst IsSaidRow (same_Some (placed_row b.name (block_entry b) (blocks_number (length l.objects) l.sections) at) r e)
            (placed_said b.name (block_entry b) (blocks_number (length l.objects) l.sections) at fit said.name (address_low l.base l.objects kinds small b.object b.number at f))

    meaning_said : (m : Meaning) (r : Row) → IsSaidMeaning m → meaning_row l m ≡ Some r → IsSaidRow r
    meaning_said (Symbol s) r said is = by (binding s.entry == STB_LOCAL) is
      where
        by : (b : Bool) → cond b None (symbol_row l s) ≡ Some r → IsSaidRow r
        by true e = absurd (none-some r e)
        by false e = row_said s r said e
    meaning_said (Common b) r said is = block_row_said b r said is
    meaning_said (Linker name bound) r said is =
        let value : ℕ = bound_value (own_where l.base l.objects) name bound in
        let low = bound_low l.base l.objects kinds small name bound in
        subst IsSaidRow (same_Some (linker_row name value) r is) (record {
          fits =
              record { st_name = omega arith; st_info = omega arith; st_other = omega arith; st_shndx = omega arith; st_value = omega (arith, low); st_size = omega arith };
          name = said;
        })

    pub meaning_rows_said : (ms : List Meaning) → AreListed l.objects ms → All IsSaidRow (meaning_rows l ms)
    meaning_rows_said ms are = all_of IsSaidMeaning IsSaidRow (meaning_row l) meaning_said ms (meanings_said l.objects bytes ms are)
