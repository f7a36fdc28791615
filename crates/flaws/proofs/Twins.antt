-- A table of the strong definitions says which names have two.
use Rattle.std.proofs.Common.{◌≡◌, ◌∙◌, ℕ, ◌++◌, Bool, true, false, List, ap, refl, sym, arith}
use Rattle.std.specs.Prelude.{◌&&◌, count_by, filter, unwrap_or}
use Rattle.std.proofs.lemmas.List.{map-append}
use Rattle.std.proofs.lemmas.List.Elements.{filter-append}
use Rattle.elf_model.proofs.ChosenSymbols.{count_filter}
use Rattle.elf_model.specs.Link.Loading.{LoadedObject}
use Rattle.elf_model.specs.Link.Resolution.{IsDuplicate, SymbolOf, all_symbols, has_name, is_strong, strong_definitions}
use Rattle.resolve.proofs.Offers.{filter-agree, twin_found, twin_missed}
use Rattle.resolve.specs.Defined.{is_strong_of}
use Rattle.resolve.specs.Offered.{offer_of, offers_of, rows_of}
use Rattle.symbols.proofs.OfferLaws.{all_offered-append}
use Rattle.symbols.specs.Offers.{Offer, all_offered}
use Rattle.symbols.specs.Rows.{Rows, no_row}

-- the strong definitions of a name, counted among those that are strong
counted_strong : (objects : List LoadedObject) (n : List ℕ) → count_by (is_strong_of n) (strong_definitions objects) ≡ count_by (has_name n) (strong_definitions objects)
counted_strong objects n =
    count_filter is_strong (is_strong_of n) (all_symbols objects)
    ∙ (ap (λ (p : SymbolOf → Bool). count_by p (all_symbols objects)) (λ i s. twice (is_strong s) (has_name n s) i)
    ∙ sym (count_filter is_strong (has_name n) (all_symbols objects)))
  where
    twice : (a b : Bool) → (a && (a && b)) ≡ (a && b)
    twice a b = elim a as (λ (x : Bool). (x && (x && b)) ≡ (x && b)) [ true ↦ refl | false ↦ refl ]

-- it says so, or doesn't
pub twins : (objects : List LoadedObject) (rows : Rows) (n : List ℕ) (b : Bool) → rows ≡ rows_of (strong_definitions objects) → b ≡ (unwrap_or (rows n) no_row).twice → b ≡ true → IsDuplicate objects n
twins objects rows n b is told t =
    let two = twin_found (strong_definitions objects) rows n b is told t in
    let same = counted_strong objects n in
    omega (arith, two, same)

pub no_twins : (objects : List LoadedObject) (rows : Rows) (n : List ℕ) (b : Bool) → rows ≡ rows_of (strong_definitions objects) → b ≡ (unwrap_or (rows n) no_row).twice → b ≡ false → ¬ IsDuplicate objects n
no_twins objects rows n b is told f = λ duplicate.
    let one = twin_missed (strong_definitions objects) rows n b is told f in
    let same = counted_strong objects n in
    omega (arith, one, same, duplicate)

-- a table to which some symbols are offered, and then the rest
pub offered_more :
    (left front rest : List SymbolOf) (rows next : Rows) → left ≡ front ++ rest → next ≡ all_offered (offers_of (filter is_strong front)) rows →
    all_offered (offers_of (filter is_strong rest)) next ≡ all_offered (offers_of (filter is_strong left)) rows
offered_more left front rest rows next is offers =
    ap (all_offered (offers_of (filter is_strong rest))) offers
    ∙ (sym (all_offered-append (offers_of (filter is_strong front)) (offers_of (filter is_strong rest)) rows)
    ∙ (ap (λ (os : List Offer). all_offered os rows) (sym (map-append offer_of (filter is_strong front) (filter is_strong rest)))
    ∙ (ap (λ (ss : List SymbolOf). all_offered (offers_of ss) rows) (sym (filter-append is_strong front rest))
    ∙ ap (λ (ss : List SymbolOf). all_offered (offers_of (filter is_strong ss)) rows) (sym is))))
