-- The chosen definitions of the objects and their blocks, and why they are refused.
use Rattle.std.proofs.Common.{◌≡◌, ℕ, ◌+◌, ◌<◌, ◌≤◌, Bool, true, false, cond, ◌&&◌, List, [], ◌∷◌, length, get_or, suc, refl, sym, ◌∙◌, ap, subst, arith}
use Rattle.std.specs.Prelude.{count_by, filter}
use Rattle.elf_model.specs.Link.Loading.{LoadedObject}
use Rattle.elf_model.proofs.ChosenSymbols.{chosen_once}
use Rattle.elf_model.specs.Link.ChosenSymbols.{chosen_symbols, definitions, is_chosen, is_definition}
use Rattle.elf_model.specs.Link.Commons.{Block, block_of, block_symbols, blocks, blocks_from, is_common_symbol}
use Rattle.elf_model.specs.Link.Resolution.{AreUnique, IsDuplicate, SymbolOf, all_symbols, is_common_definition}
use Rattle.search.specs.Loads.{LoadedPlan}
use Rattle.search.specs.Numbers.{AreNamed}
use Rattle.resolve.specs.Blocks.{blocks_by}
use Rattle.resolve.specs.Defined.{HasEachNameOnce, HasNoStrongTwins, is_strong_of}
use Rattle.resolve.specs.Offered.{is_meant, rows_of}
use Rattle.resolve.specs.Owned.{AreOwners, is_kept, is_owner}
use Rattle.resolve.specs.Refusals.{ResolvingFails, IsDuplicateOf}
use Rattle.resolve.specs.declared.faults.ResolveFault.{ResolveFault}
use Rattle.resolve.specs.declared.faults.ResolveFault.TheVariants as error
use Rattle.symbols.specs.declared.owner.Owner.{Owner}
use Rattle.resolve.proofs.NamedNumbers.{all_numbered}
use Rattle.resolve.proofs.Offers.{commons_extent, filter-agree, meant_chosen, row_extent, strong_counted}
use Rattle.resolve.proofs.Takings.{owner_meant}
use Rattle.symbols.specs.Rows.{Rows}

-- the blocks of symbols by the rows of the common definitions
blocks_by-blocks : (L : List LoadedObject) (k : ℕ) (ss : List SymbolOf) → blocks_by (rows_of (filter is_common_definition (definitions L))) (length L) k ss ≡ blocks_from L k ss
blocks_by-blocks L k [] = refl
blocks_by-blocks L k (s ∷ ss) =
    ap (λ (e : ℕ × ℕ). made e.0 e.1 ∷ blocks_by (rows_of (filter is_common_definition (definitions L))) (length L) (k + 1) ss) (commons_extent (definitions L) s.name ∙ row_extent L s.name)
    ∙ ap (λ (bs : List Block). block_of L k s ∷ bs) (blocks_by-blocks L (k + 1) ss)
  where
    made : ℕ → ℕ → Block
    made size align = record { object = length L; number = k; name = s.name; size = size; align = align }

-- tests that agree at each place keep the same
filter_alike : {X : Type 0} (p q : X → Bool) (xs : List X) → ((k : ℕ) (d : X) → k < length xs → p (get_or xs k d) ≡ q (get_or xs k d)) → filter p xs ≡ filter q xs
filter_alike p q [] same = refl
filter_alike {X} p q (x ∷ xs) same =
    ap (λ b. cond b (x ∷ filter p xs) (filter p xs)) (same 0 x (omega arith))
    ∙ ap (λ (ys : List X). cond (q x) (x ∷ ys) ys) (filter_alike p q xs (λ k d within. same (suc k) d (omega (arith, within))))

-- two tests at once, and one after the other
filter_both : {X : Type 0} (p q : X → Bool) (xs : List X) → filter (λ x. p x && q x) xs ≡ filter p (filter q xs)
filter_both p q [] = refl
filter_both {X} p q (x ∷ xs) = by (p x) (q x) refl refl (filter_both p q xs)
  where
    and_false : (c : Bool) → (c && false) ≡ false
    and_false true = refl
    and_false false = refl

    and_true : (c : Bool) → (c && true) ≡ c
    and_true true = refl
    and_true false = refl

    both : List X
    both = filter (λ y. p y && q y) xs

    by : (a b : Bool) → p x ≡ a → q x ≡ b → both ≡ filter p (filter q xs) → cond (p x && q x) (x ∷ both) both ≡ filter p (cond (q x) (x ∷ filter q xs) (filter q xs))
    by a false is e rest =
        ap (λ (c : Bool). cond c (x ∷ both) both) (ap (λ (c : Bool). p x && c) e ∙ and_false (p x))
        ∙ (rest ∙ ap (λ (c : Bool). filter p (cond c (x ∷ filter q xs) (filter q xs))) (sym e))
    by a true is e rest =
        ap (λ (c : Bool). cond c (x ∷ both) both) (ap (λ (c : Bool). p x && c) e ∙ and_true (p x))
        ∙ (ap (λ (ys : List X). cond (p x) (x ∷ ys) ys) rest
        ∙ ap (λ (c : Bool). filter p (cond c (x ∷ filter q xs) (filter q xs))) (sym e))

-- the definitions that are the owners of their names are the chosen ones
pub kept_chosen :
    (l : LoadedPlan) (owners : List Owner) → AreNamed l → AreOwners l.names (rows_of (definitions l.objects)) owners →
    filter (is_kept l owners) (all_symbols l.objects) ≡ chosen_symbols l.objects
kept_chosen l owners named are =
    let rows = rows_of (definitions l.objects) in
    filter_both (is_owner l owners) is_definition (all_symbols l.objects)
    ∙ (filter_alike (is_owner l owners) (is_meant rows) (definitions l.objects) (λ k d within. owner_meant l rows owners _ named are (all_numbered l k d within))
    ∙ filter-agree (is_meant rows) (is_chosen l.objects) (definitions l.objects) (meant_chosen l.objects))

-- their blocks, by the rows of the common ones
pub chosen_blocks :
    (L : List LoadedObject) (rows : Rows) (object : ℕ) → rows ≡ rows_of (filter is_common_definition (definitions L)) → object ≡ length L →
    blocks_by rows object 0 (filter is_common_symbol (chosen_symbols L)) ≡ blocks L
chosen_blocks L rows object offered past =
    ap (λ (r : Rows). blocks_by r object 0 (block_symbols L)) offered
    ∙ ap (λ (k : ℕ). blocks_by (rows_of (filter is_common_definition (definitions L))) k 0 (block_symbols L)) past
    ∙ blocks_by-blocks L 0 (block_symbols L)

-- two strong ones of the definitions have the name that the refusal names
pub refused : (L : List LoadedObject) (n : List ℕ) (e : ResolveFault) → 2 ≤ count_by (is_strong_of n) (definitions L) → IsDuplicateOf n e → ResolvingFails L e
refused L n error.Memory two named = tt
refused L n (error.Duplicate name) two named =
    subst (IsDuplicate L) (sym named)
    (let same = strong_counted L n in omega (arith, same, two))
refused L n _ two named = absurd named

-- no name has two strong ones
pub are_unique : (L : List LoadedObject) → HasNoStrongTwins (definitions L) → AreUnique L
are_unique L once n =
    let few = once n in
    let same = strong_counted L n in
    omega (arith, few, same)

-- each name of the chosen definitions is that of one
pub named_once : (L : List LoadedObject) → HasEachNameOnce (chosen_symbols L)
named_once L n = chosen_once L n
