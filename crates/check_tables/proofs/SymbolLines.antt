-- The symbol lines of a map against the chosen definitions and the linker's names that have one.
use Rattle.std.proofs.Common.{◌≡◌, ℕ, ◌+◌, Bool, true, false, not, cond, ◌&&◌, ◌||◌, List, [], ◌∷◌, ◌++◌, length, length-append, Option, Some, None, refl, sym, ◌∙◌, ap, subst, arith}
use Rattle.std.specs.Prelude.{◌↔◌, All, IfSome, IsSome, filter, is_some, option_map}
use Rattle.std.specs.Option.{option_and_then, option_map_or, option_or}
use Rattle.std.proofs.lemmas.Bool.{false≢true, or_left}
use Rattle.std.proofs.lemmas.List.Elements.{All-contains}
use Rattle.std.proofs.lemmas.List.Sorted.{IsPermutation-refl}
use Rattle.std.proofs.lemmas.Option.{none-some, same_Some}
use Rattle.elf_model.proofs.ChosenSymbols.{All-kept, all_chosen, unique_from_chosen}
use Rattle.elf_model.proofs.Listed.{All-from_contains, Contains-filter, Contains-from_filter}
use Rattle.elf_model.proofs.Listing.{chosen_means, joined_listed}
use Rattle.elf_model.specs.Link.ChosenSymbols.{chosen_symbols, definitions, is_chosen, is_definition}
use Rattle.elf_model.specs.Link.LinkerNames.{bound_of}
use Rattle.elf_model.specs.Link.LinkerValues.{bound_value}
use Rattle.elf_model.specs.Link.Listing as Listing
use Rattle.elf_model.specs.Link.Listing.{AreLinkerLines, is_used, linker_line}
use Rattle.elf_model.specs.Link.Loading.{LoadedObject}
use Rattle.elf_model.specs.Image.MapRecord.{SymbolRow}
use Rattle.elf_model.specs.Image.MapText.{Ascends, SymbolBefore}
use Rattle.elf_model.specs.Link.Commons.{block_named, is_common_symbol}
use Rattle.elf_model.specs.Link.Meaning.{Common, Linker, Meaning, Symbol, meanings_of, meant, meant_list, object_meaning}
use Rattle.elf_model.specs.Link.Placement.{Where}
use Rattle.elf_model.specs.Link.Resolution.{AreUnique, SymbolOf, all_symbols, chosen, is_strong, strong_definitions}
use Rattle.elf_model.specs.Image.RightLink.{HasLine, symbol_row_of}
use Rattle.elf_model.specs.declared.bound.Bound.{Bound}
use Rattle.elf_model.specs.declared.link_map.Definition.TheVariants as definition
use Rattle.check_link.specs.Views.{symbol_view}
use Rattle.check_link.specs.declared.things.SymbolOf as code
use Rattle.check_tables.proofs.CountedLines.{counted_lines}
use Rattle.check_tables.specs.Listed.{IsChosenIfStrong, IsLine}

-- as many as the lines of chosen symbols and of the linker's names together, and each right
pub listed :
    (objects : List LoadedObject) (w : Where) (rows : List SymbolRow) (linkers : List Meaning) (count : ℕ) →
    AreLinkerLines objects linkers → Ascends SymbolBefore rows →
    count ≡ length (meanings_of objects (chosen_symbols objects)) →
    (All (IsLine objects w) rows × (length rows ≡ count + length linkers)) ↔ ((name : List ℕ) → HasLine rows objects w name)
listed objects w rows linkers count lines ascend is =
    let ms = meanings_of objects (chosen_symbols objects) in
    let both = joined_listed objects (chosen_symbols objects) linkers (IsPermutation-refl (chosen_symbols objects)) lines in
    let more = length-append ms linkers in
    let whole = counted_lines objects w rows (ms ++ linkers) both ascend in (
      λ h. whole.0 (h.0, let e = h.1 in omega (arith, more, is, e)),
      λ have. let h = whole.1 have in (h.0, let e = h.1 in omega (arith, more, is, e)),
    )

-- the line of a name that an object defines, and of one that none does
pub means_object :
    (objects : List LoadedObject) (n : List ℕ) (m : Meaning) → object_meaning objects n ≡ Some m → Listing.listed objects n ≡ Some m
means_object objects n m is = by (chosen objects n) is
  where
    by : (o : Option SymbolOf) → option_and_then (meant objects) o ≡ Some m →
        cond (is_some o || is_used objects n) (option_or (option_and_then (meant objects) o) (option_map (Linker n) (bound_of objects n))) None ≡ Some m
    by None e = absurd (none-some m e)
    by (Some s) e = ap (λ (o : Option Meaning). option_or o (option_map (Linker n) (bound_of objects n))) e

pub means_linker :
    (objects : List LoadedObject) (n : List ℕ) → object_meaning objects n ≡ None → Listing.listed objects n ≡ linker_line objects n
means_linker objects n is = by (chosen objects n) refl is
  where
    by : (o : Option SymbolOf) → chosen objects n ≡ o → option_and_then (meant objects) o ≡ None →
        cond (is_some o || is_used objects n) (option_or (option_and_then (meant objects) o) (option_map (Linker n) (bound_of objects n))) None
        ≡ cond (is_used objects n && not (is_some o)) (option_map (Linker n) (bound_of objects n)) None
    by None e none = used (is_used objects n)
      where
        used : (b : Bool) → cond b (option_map (Linker n) (bound_of objects n)) None ≡ cond (b && true) (option_map (Linker n) (bound_of objects n)) None
        used true = refl
        used false = refl
    by (Some s) e none = absurd (false≢true (sym (ap is_some none) ∙ chosen_means objects n s e))

-- no name has two strong definitions where each strong one is chosen
pub unique_told : (objects : List LoadedObject) → All (IsChosenIfStrong objects) (definitions objects) ↔ AreUnique objects
unique_told objects = (
  λ each. unique_from_chosen objects
      (All-from_contains (λ s. is_chosen objects s ≡ true) (strong_definitions objects) (λ s c.
      let there = Contains-from_filter is_strong (all_symbols objects) s c in
      All-contains (IsChosenIfStrong objects) (definitions objects) s each
      (Contains-filter is_definition (all_symbols objects) s there.0 (or_left (is_strong s) _ there.1)) there.1)),
  λ unique.
      let all = All-kept (λ (x : SymbolOf). is_chosen objects x ≡ true) is_strong (all_symbols objects) (all_chosen objects unique) in
      All-from_contains (IsChosenIfStrong objects) (definitions objects) (λ s c.
      All-contains (IsChosenIfStrong objects) (all_symbols objects) s all (Contains-from_filter is_definition (all_symbols objects) s c).0),
)

-- one more definition's lines
pub more_lines :
    (objects : List LoadedObject) (s : SymbolOf) (ss : List SymbolOf) →
    length (meanings_of objects (filter (is_chosen objects) (s ∷ ss)))
    ≡ length (meanings_of objects (filter (is_chosen objects) (s ∷ []))) + length (meanings_of objects (filter (is_chosen objects) ss))
more_lines objects s ss = by (is_chosen objects s) refl
  where
    by :
        (b : Bool) → is_chosen objects s ≡ b →
        length (meanings_of objects (filter (is_chosen objects) (s ∷ ss)))
        ≡ length (meanings_of objects (filter (is_chosen objects) (s ∷ []))) + length (meanings_of objects (filter (is_chosen objects) ss))
    by true e =
        rw e
        (let a = length-append (meant_list objects s) (meanings_of objects (filter (is_chosen objects) ss)) in
        let b = length-append (meant_list objects s) [] in omega (arith, a, b))
    by false e = rw e (omega arith)

-- a row that names the linker, of one of its names
pub linkers_row :
    (w : Where) (n : List ℕ) (bound : Bound) (row : SymbolRow) → row.name ≡ n → row.definition ≡ definition.Linker →
    (row.address ≡ bound_value w n bound) ↔ (Some (symbol_row_of w (Linker n bound)) ≡ Some row)
linkers_row w n bound row named linkers = (
  λ e i. Some (record { address = sym e i; definition = sym linkers i; name = sym named i }),
  λ e. sym (ap (λ (r : SymbolRow). r.address) (same_Some (symbol_row_of w (Linker n bound)) row e)),
)

-- A definition at a position.
-- it has one line where it isn't a common symbol
pub plain_line : (objects : List LoadedObject) (o : Option SymbolOf) → option_map_or is_common_symbol o false ≡ false → IfSome o (λ s. 1 ≡ length (meant_list objects s))
plain_line objects None plain = tt
plain_line objects (Some s) plain =
    ap (λ (b : Bool). length (option_map_or (λ (m : Meaning). m ∷ []) (cond b (option_map Common (block_named objects s.name)) (Some (Symbol s))) [])) (sym plain)

-- what is told of the symbol that is read there
pub read_there : (P : SymbolOf → Type 0) (o : Option SymbolOf) (r : code.SymbolOf) → Some (symbol_view r) ≡ o → P (symbol_view r) → IfSome o P
read_there P o r is holds = subst (λ (x : Option SymbolOf). IfSome x P) is holds

-- the lines of one that is chosen, and of one that isn't
pub chosen_lines :
    (objects : List LoadedObject) (o : Option SymbolOf) (n : ℕ) → IfSome o (λ s. true ≡ is_chosen objects s) → IfSome o (λ s. n ≡ length (meant_list objects s)) →
    IfSome o (λ s. n ≡ length (meanings_of objects (filter (is_chosen objects) (s ∷ []))))
chosen_lines objects None n is count = tt
chosen_lines objects (Some s) n is count =
    let long = length-append (meant_list objects s) [] in
    let own : length (meanings_of objects (filter (is_chosen objects) (s ∷ []))) ≡ length (meant_list objects s ++ []) =
    ap (λ (b : Bool). length (meanings_of objects (cond b (s ∷ []) []))) (sym is) in
    omega (arith, long, own, count)

pub other_lines :
    (objects : List LoadedObject) (o : Option SymbolOf) → IfSome o (λ s. false ≡ is_chosen objects s) →
    IfSome o (λ s. 0 ≡ length (meanings_of objects (filter (is_chosen objects) (s ∷ []))))
other_lines objects None is = tt
other_lines objects (Some s) is = ap (λ (b : Bool). length (meanings_of objects (cond b (s ∷ []) []))) is

-- whether one is chosen if it is strong
pub chosen_lawful : (objects : List LoadedObject) (o : Option SymbolOf) → IfSome o (λ s. true ≡ is_chosen objects s) → IfSome o (IsChosenIfStrong objects)
chosen_lawful objects None is = tt
chosen_lawful objects (Some s) is = λ strong. sym is

pub plain_lawful : (objects : List LoadedObject) (o : Option SymbolOf) → option_map_or is_strong o false ≡ false → IfSome o (IsChosenIfStrong objects)
plain_lawful objects None plain = tt
plain_lawful objects (Some s) plain = λ strong. absurd (false≢true (sym plain ∙ strong))

pub unlawful :
    (objects : List LoadedObject) (o : Option SymbolOf) → IfSome o (λ s. false ≡ is_chosen objects s) → option_map_or is_strong o false ≡ true →
    IfSome o (λ s. IsChosenIfStrong objects s → ⊥)
unlawful objects None is strong = tt
unlawful objects (Some s) is strong = λ lawful. false≢true (is ∙ lawful strong)

pub if_holds : (P : SymbolOf → Type 0) (o : Option SymbolOf) → IfSome o P → IfSome o (λ s. Unit {0} ↔ P s)
if_holds P None h = tt
if_holds P (Some s) h = (λ t. h, λ p. tt)

-- what is told of the lines of the one there is
pub count_there :
    (objects : List LoadedObject) (o : Option SymbolOf) (s : SymbolOf) (r : Option ℕ) (n : ℕ) → o ≡ Some s → r ≡ Some n →
    IfSome o (λ t. IfSome r (λ k. k ≡ length (meanings_of objects (filter (is_chosen objects) (t ∷ []))))) →
    n ≡ length (meanings_of objects (filter (is_chosen objects) (s ∷ [])))
count_there objects (Some t) s (Some k) n is told count =
    sym (same_Some k n told) ∙ (count ∙ ap (λ (x : SymbolOf). length (meanings_of objects (filter (is_chosen objects) (x ∷ [])))) (same_Some t s is))
count_there objects (Some t) s None n is told count = absurd (none-some n told)
count_there objects None s r n is told count = absurd (none-some s is)

pub lawful_there :
    (objects : List LoadedObject) (o : Option SymbolOf) (s : SymbolOf) (r : Option ℕ) (n : ℕ) → o ≡ Some s → r ≡ Some n →
    IfSome o (λ t. IsSome r ↔ IsChosenIfStrong objects t) → IsChosenIfStrong objects s
lawful_there objects o s r n is told lawful =
    let here = subst (λ (x : Option SymbolOf). IfSome x (λ t. IsSome r ↔ IsChosenIfStrong objects t)) is lawful in
    here.0 (ap is_some told)
