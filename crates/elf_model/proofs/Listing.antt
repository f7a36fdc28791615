-- What names mean, as lists: what a search by a name finds in them, and that it finds no other one.
use Rattle.std.proofs.Common.{◌≡◌, ◌∙◌, ℕ, ◌+◌, ◌≤◌, Bool, true, false, not, cond, ◌&&◌, ◌||◌, List, [], ◌∷◌, ◌++◌, Option, None, Some, refl, sym, ap, arith}
use Rattle.std.specs.Prelude.{Contains, IsPermutation, count_by, find, is_some, map, option_map}
use Rattle.std.specs.Option.{option_and_then, option_map_or, option_or}
use Rattle.std.specs.Str.{bytes_eq}
use Rattle.std.proofs.lemmas.Bool.{false≢true}
use Rattle.std.proofs.lemmas.List.Elements.{All-contains}
use Rattle.std.proofs.lemmas.List.Sums.{sum_by-append}
use Rattle.std.proofs.lemmas.Option.{none-some, same_Some}
use Rattle.std.proofs.lemmas.Slice.Eq.{bytes_eq-Decides}
use Rattle.elf_model.specs.Link.ChosenSymbols.{chosen_symbols}
use Rattle.elf_model.specs.Link.Commons.{Block, block_named, block_symbols, blocks, is_block_of, is_common_symbol}
use Rattle.elf_model.specs.Link.LinkerNames.{bound_of}
use Rattle.elf_model.specs.Link.Listing.{AreLinkerLines, AreListed, AreOf, has_meaning, is_used, listed}
use Rattle.elf_model.specs.Link.Loading.{LoadedObject}
use Rattle.elf_model.specs.Link.Meaning.{Common, Linker, Meaning, Symbol, meaning_name, meanings_of, meant, object_meaning}
use Rattle.elf_model.specs.Link.Resolution.{SymbolOf, chosen, has_name}
use Rattle.elf_model.proofs.Blocks.{block_named-some}
use Rattle.elf_model.proofs.ChosenSymbols.{chosen_listed, chosen_once}
use Rattle.elf_model.proofs.Finding.{find-found, none-passes}
use Rattle.elf_model.proofs.Listed.{Contains-filter}
use Rattle.elf_model.proofs.RisingNames.{absent_count, count_permuted, counted, find_permuted}

find-append : {X : Type 0} (p : X → Bool) (xs ys : List X) → find p (xs ++ ys) ≡ option_or (find p xs) (find p ys)
find-append p [] ys = refl
find-append {X} p (x ∷ xs) ys =
    elim (p x) as (λ b. cond b (Some x) (find p (xs ++ ys)) ≡ option_or (cond b (Some x) (find p xs)) (find p ys)) [
      | true ↦ refl
      | false ↦ find-append p xs ys
    ]

pub count-map : {X Y : Type 0} (p : Y → Bool) (f : X → Y) (xs : List X) → count_by p (map f xs) ≡ count_by (λ x. p (f x)) xs
count-map p f [] = refl
count-map p f (x ∷ xs) =
    counted p (f x) (map f xs) ∙ ap (λ k. cond (p (f x)) 1 0 + k) (count-map p f xs) ∙ sym (counted (λ y. p (f y)) x xs)

and_false : (b : Bool) → (b && false) ≡ false
and_false true = refl
and_false false = refl

-- a search that no element passes
find-uncounted : {X : Type 0} (p : X → Bool) (xs : List X) → count_by p xs ≡ 0 → find p xs ≡ None
find-uncounted p [] z = refl
find-uncounted {X} p (x ∷ xs) z = here (p x) refl (λ less. find-uncounted p xs less)
  where
    here : (b : Bool) → p x ≡ b → (count_by p xs ≡ 0 → find p xs ≡ None) → cond b (Some x) (find p xs) ≡ None
    here true e rest = let c = counted p x xs in let k = ap {B = ℕ} (λ b. cond b 1 0) e in absurd (omega (arith, c, k, z))
    here false e rest = let c = counted p x xs in let k = ap {B = ℕ} (λ b. cond b 1 0) e in rest (omega (arith, c, k, z))

-- a list in another order has what it had
pub permuted_is_of :
    (means : List ℕ → Option Meaning) (ms ns : List Meaning) → IsPermutation ms ns → AreOf means ms → AreOf means ns
permuted_is_of means ms ns moved of = record {
  found = λ n. sym (find_permuted (has_meaning n) ms ns moved (of.once n)) ∙ of.found n;
  once = λ n. let e = count_permuted (has_meaning n) ms ns moved in let few = of.once n in omega (arith, e, few);
}

module _ (L : List LoadedObject) where
  -- what a symbol means has the symbol's name
  meant_name : (s : SymbolOf) (m : Meaning) → meant L s ≡ Some m → meaning_name m ≡ s.name
  meant_name s m is = by (is_common_symbol s) is (block_named L s.name) refl
    where
      by :
          (b : Bool) → cond b (option_map Common (block_named L s.name)) (Some (Symbol s)) ≡ Some m →
          (o : Option Block) → block_named L s.name ≡ o → meaning_name m ≡ s.name
      by false e o named = sym (ap meaning_name (same_Some (Symbol s) m e))
      by true e None named = absurd (none-some m (sym (ap (option_map Common) named) ∙ e))
      by true e (Some b) named =
          let same : Common b ≡ m = same_Some (Common b) m (sym (ap (option_map Common) named) ∙ e) in
          let found = find-found (is_block_of s.name) (blocks L) b named in
          sym (ap meaning_name same) ∙ (bytes_eq-Decides b.name s.name).0 found.passes

  -- a chosen symbol means something
  pub chosen_means : (n : List ℕ) (s : SymbolOf) → chosen L n ≡ Some s → is_some (meant L s) ≡ true
  chosen_means n s is = by (is_common_symbol s) refl
    where
      named : s.name ≡ n
      named = (bytes_eq-Decides s.name n).0 (find-found (has_name n) (chosen_symbols L) s (chosen_listed L n ∙ is)).passes

      there : is_common_symbol s ≡ true → Contains (block_symbols L) s
      there common =
          Contains-filter is_common_symbol (chosen_symbols L) s (find-found (has_name n) (chosen_symbols L) s (chosen_listed L n ∙ is)).there common

      found : (o : Option SymbolOf) → find (has_name s.name) (block_symbols L) ≡ o → is_common_symbol s ≡ true → is_some o ≡ true
      found (Some t) e common = refl
      found None e common =
          absurd
          (false≢true
          (sym (All-contains (λ (t : SymbolOf). has_name s.name t ≡ false) (block_symbols L) s (none-passes (has_name s.name) (block_symbols L) e) (there common))
          ∙ (bytes_eq-Decides s.name s.name).1 refl))

      mapped : (o : Option Block) → is_some o ≡ true → is_some (option_map Common o) ≡ true
      mapped (Some b) e = refl
      mapped None e = absurd (false≢true e)

      by : (b : Bool) → is_common_symbol s ≡ b → is_some (cond b (option_map Common (block_named L s.name)) (Some (Symbol s))) ≡ true
      by false e = refl
      by true e =
          mapped (block_named L s.name)
          (block_named-some L s.name ∙ ap is_some (refl {a = find (has_name s.name) (block_symbols L)}) ∙ found (find (has_name s.name) (block_symbols L)) refl e)

  module _ (n : List ℕ) where
    -- what one symbol means, by the name
    named_meant : (s : SymbolOf) (m : Meaning) → meant L s ≡ Some m → has_meaning n m ≡ has_name n s
    named_meant s m is = ap (λ (name : List ℕ). bytes_eq name n) (meant_name s m is)

    meanings_count : (ss : List SymbolOf) → count_by (has_meaning n) (meanings_of L ss) ≤ count_by (has_name n) ss
    meanings_count [] = omega arith
    meanings_count (s ∷ ss) = by (meant L s) refl (meanings_count ss)
      where
        by :
            (o : Option Meaning) → meant L s ≡ o → count_by (has_meaning n) (meanings_of L ss) ≤ count_by (has_name n) ss →
            count_by (has_meaning n) (option_map_or (λ m. m ∷ []) o [] ++ meanings_of L ss) ≤ count_by (has_name n) (s ∷ ss)
        by None e rest = let c = counted (has_name n) s ss in omega (arith, c, rest)
        by (Some m) e rest =
            let c = counted (has_name n) s ss in
            let d = counted (has_meaning n) m (meanings_of L ss) in
            let same = ap {B = ℕ} (λ b. cond b 1 0) (named_meant s m e) in
            omega (arith, c, d, same, rest)

    meanings_found :
        (ss : List SymbolOf) → count_by (has_name n) ss ≤ 1 →
        find (has_meaning n) (meanings_of L ss) ≡ option_and_then (meant L) (find (has_name n) ss)
    meanings_found [] few = refl
    meanings_found (s ∷ ss) few = by (meant L s) (has_name n s) refl refl (meanings_found ss fewer)
      where
        fewer : count_by (has_name n) ss ≤ 1
        fewer = let c = counted (has_name n) s ss in omega (arith, c, few)

        none_left : has_name n s ≡ true → find (has_name n) ss ≡ None
        none_left e =
            let c = counted (has_name n) s ss in
            let k = ap {B = ℕ} (λ b. cond b 1 0) e in
            let zero : count_by (has_name n) ss ≡ 0 = omega (arith, c, k, few) in
            find-uncounted (has_name n) ss zero

        by :
            (o : Option Meaning) (b : Bool) → meant L s ≡ o → has_name n s ≡ b →
            find (has_meaning n) (meanings_of L ss) ≡ option_and_then (meant L) (find (has_name n) ss) →
            find (has_meaning n) (option_map_or (λ m. m ∷ []) o [] ++ meanings_of L ss)
            ≡ option_and_then (meant L) (cond b (Some s) (find (has_name n) ss))
        by None true e f rest = rest ∙ ap (option_and_then (meant L)) (none_left f) ∙ sym e
        by None false e f rest = rest
        by (Some m) true e f rest =
            ap (λ b. cond b (Some m) (find (has_meaning n) (meanings_of L ss))) (named_meant s m e ∙ f) ∙ sym e
        by (Some m) false e f rest =
            ap (λ b. cond b (Some m) (find (has_meaning n) (meanings_of L ss))) (named_meant s m e ∙ f) ∙ rest

    -- what objects define and the linker's lines, together
    either_listed :
        (o : Option SymbolOf) (used : Bool) (linkers : Option Meaning) → chosen L n ≡ o →
        option_or (option_and_then (meant L) o) (cond (used && not (is_some o)) linkers None)
        ≡ cond (is_some o || used) (option_or (option_and_then (meant L) o) linkers) None
    either_listed None true linkers is = refl
    either_listed None false linkers is = refl
    either_listed (Some s) used linkers is = by (meant L s) (chosen_means n s is)
      where
        some_stays : (m : Meaning) (b : Bool) → option_or (Some m) (cond b linkers None) ≡ Some m
        some_stays m b = refl

        by : (o : Option Meaning) → is_some o ≡ true → option_or o (cond (used && false) linkers None) ≡ option_or o linkers
        by (Some m) e = refl
        by None e = absurd (false≢true e)

  -- the chosen symbols, in any order, and the linker's lines have what the names mean that have a line
  pub joined_listed :
      (ss : List SymbolOf) (lines : List Meaning) → IsPermutation (chosen_symbols L) ss → AreLinkerLines L lines → AreListed L (meanings_of L ss ++ lines)
  joined_listed ss lines moved of = record { found = found; once = once }
    where
      few : (n : List ℕ) → count_by (has_name n) ss ≤ 1
      few n = let e = count_permuted (has_name n) (chosen_symbols L) ss moved in let u = chosen_once L n in omega (arith, e, u)

      symbol : (n : List ℕ) → find (has_name n) ss ≡ chosen L n
      symbol n = sym (find_permuted (has_name n) (chosen_symbols L) ss moved (chosen_once L n)) ∙ chosen_listed L n

      front : (n : List ℕ) → find (has_meaning n) (meanings_of L ss) ≡ object_meaning L n
      front n = meanings_found n ss (few n) ∙ ap (option_and_then (meant L)) (symbol n)

      found : (n : List ℕ) → find (has_meaning n) (meanings_of L ss ++ lines) ≡ listed L n
      found n =
          find-append (has_meaning n) (meanings_of L ss) lines
          ∙ ap (λ (o : Option Meaning). option_or o (find (has_meaning n) lines)) (front n)
          ∙ ap (λ (o : Option Meaning). option_or (object_meaning L n) o) (of.found n)
          ∙ either_listed n (chosen L n) (is_used L n) (option_map (Linker n) (bound_of L n)) refl

      once : (n : List ℕ) → count_by (has_meaning n) (meanings_of L ss ++ lines) ≤ 1
      once n =
          let both = sum_by-append (λ m. cond (has_meaning n m) 1 0) (meanings_of L ss) lines in
          let less = meanings_count n ss in
          let one = few n in
          let other = of.once n in
          by (chosen L n) refl both less one other
        where
          by :
              (o : Option SymbolOf) → chosen L n ≡ o →
              count_by (has_meaning n) (meanings_of L ss ++ lines) ≡ count_by (has_meaning n) (meanings_of L ss) + count_by (has_meaning n) lines →
              count_by (has_meaning n) (meanings_of L ss) ≤ count_by (has_name n) ss → count_by (has_name n) ss ≤ 1 →
              count_by (has_meaning n) lines ≤ 1 → count_by (has_meaning n) (meanings_of L ss ++ lines) ≤ 1
          by None e both less one other =
              let none = absent_count (has_name n) ss (none-passes (has_name n) ss (symbol n ∙ e)) in
              omega (arith, both, less, none, other)
          by (Some s) e both less one other =
              let none =
              absent_count (has_meaning n) lines
              (none-passes (has_meaning n) lines
              (of.found n
              ∙ ap (λ (o : Option SymbolOf). cond {A = Option Meaning} (is_used L n && not (is_some o)) (option_map (Linker n) (bound_of L n)) None) e
              ∙ ap (λ t. cond {A = Option Meaning} t (option_map (Linker n) (bound_of L n)) None) (and_false (is_used L n)))) in
              omega (arith, both, less, one, none)
