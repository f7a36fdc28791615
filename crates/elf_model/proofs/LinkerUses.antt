-- The linker's names that relocations use: how a set gains them, and that these are the lines of the linker's names.
use Rattle.std.proofs.Common.{◌≡◌, ◌∙◌, ℕ, Bool, true, false, not, ◌&&◌, ◌||◌, ◌+◌, ◌<◌, List, [], ◌∷◌, ◌++◌, append_assoc, drop, get_or, length, map, refl, sym, ap}
use Rattle.std.specs.Prelude.{None, Option, Some, cond, filter, is_some, option_map}
use Rattle.std.specs.BTreeSet.{BTreeSet}
use Rattle.std.specs.Borrow.{Bor}
use Rattle.std.specs.List.{list_any}
use Rattle.std.specs.Str.{bytes_eq}
use Rattle.std.proofs.Math.Bool.{or_assoc}
use Rattle.std.proofs.lemmas.List.Folds.{list_any-append}
use Rattle.std.proofs.lemmas.Slice.Eq.{bytes_eq-Decides}
use Rattle.elf_model.specs.Link.LinkerNames.{bound_of}
use Rattle.elf_model.specs.Link.Listing.{is_use_of, is_used, linker_line}
use Rattle.elf_model.specs.Link.Loading.{LoadedObject}
use Rattle.elf_model.specs.Link.Meaning.{Linker, Meaning}
use Rattle.elf_model.specs.Link.Relocation.{Relocation, is_local, relocations}
use Rattle.elf_model.specs.Link.Resolution.{chosen}
use Rattle.elf_model.specs.declared.bound.Bound.{Bound}
use Rattle.elf_model.proofs.Rests.{rest_at}
use Rattle.elf_model.specs.Link.UsedNames.{Gains, is_among, is_linker_use, uses_line}

-- one element more of those that a filter keeps
pub kept_more :
    {X Y Z : Type 0} (f : Y → Z) (p : Y → Bool) (view : X → Y) (xs : List X) (i : ℕ) (d : X) (out next all : List Z) → i < length xs →
    next ≡ out ++ map f (filter p (view (get_or xs i d) ∷ [])) → out ++ map f (filter p (map view (drop i xs))) ≡ all →
    next ++ map f (filter p (map view (drop (i + 1) xs))) ≡ all
kept_more {X} {Y} {Z} f p view xs i d out next all within grown whole =
    let y : Y = view (get_or xs i d) in
    let rest : List Y = map view (drop (i + 1) xs) in
    ap (λ (zs : List Z). zs ++ map f (filter p rest)) grown
    ∙ append_assoc out (map f (filter p (y ∷ []))) (map f (filter p rest))
    ∙ ap (λ (zs : List Z). out ++ zs) (by y rest (p y))
    ∙ ap (λ (ys : List X). out ++ map f (filter p (map view ys))) (sym (rest_at xs i d within))
    ∙ whole
  where
    by :
        (y : Y) (ys : List Y) (b : Bool) →
        map f (cond b (y ∷ []) []) ++ map f (filter p ys) ≡ map f (cond b (y ∷ filter p ys) (filter p ys))
    by y ys true = refl
    by y ys false = refl

abbrev Names : Type 0
Names = BTreeSet (Bor (List ℕ))

module _ (L : List LoadedObject) where
  -- the relocations that are left, once a set gained the names of those before them
  pub gained :
      (here rest : List Relocation) (old mid : Names) (n : List ℕ) (all : Bool) → Gains L here old mid →
      (is_among old n || list_any (uses_line L n) (here ++ rest)) ≡ all → (is_among mid n || list_any (uses_line L n) rest) ≡ all
  gained here rest old mid n all first whole =
      ap (λ b. b || list_any (uses_line L n) rest) (first n)
      ∙ or_assoc (is_among old n) (list_any (uses_line L n) here) (list_any (uses_line L n) rest)
      ∙ ap (λ b. is_among old n || b) (sym (list_any-append (uses_line L n) here rest))
      ∙ whole

  module _ (n : List ℕ) where
    abbrev may_have_line : Bool
    may_have_line = is_some (bound_of L n) && not (is_some (chosen L n))

    use_is : (r : Relocation) → uses_line L n r ≡ (is_use_of n r && may_have_line)
    use_is r = by (bytes_eq r.symbol.name n) refl
      where
        local_first : (a b : Bool) → ((a && b) && true) ≡ ((a && true) && b)
        local_first true true = refl
        local_first true false = refl
        local_first false b = refl

        none : (a b : Bool) → ((a && b) && false) ≡ ((a && false) && b)
        none true true = refl
        none true false = refl
        none false b = refl

        by : (t : Bool) → bytes_eq r.symbol.name n ≡ t → uses_line L n r ≡ (is_use_of n r && may_have_line)
        by true e =
            let is : r.symbol.name ≡ n = (bytes_eq-Decides r.symbol.name n).0 e in
            ap (λ t. is_linker_use L r.symbol && t) e
            ∙ ap (λ (m : List ℕ). (not (is_local r.symbol) && (is_some (bound_of L m) && not (is_some (chosen L m)))) && true) is
            ∙ local_first (not (is_local r.symbol)) may_have_line
            ∙ sym (ap (λ t. (not (is_local r.symbol) && t) && may_have_line) e)
        by false e =
            ap (λ t. is_linker_use L r.symbol && t) e
            ∙ none (not (is_local r.symbol)) (is_some (bound_of L r.symbol.name) && not (is_some (chosen L r.symbol.name)))
            ∙ also (not (is_local r.symbol)) (is_some (bound_of L r.symbol.name) && not (is_some (chosen L r.symbol.name))) may_have_line
            ∙ sym (ap (λ t. (not (is_local r.symbol) && t) && may_have_line) e)
          where
            also : (a b c : Bool) → ((a && false) && b) ≡ ((a && false) && c)
            also true b c = refl
            also false b c = refl

    uses_are : (rs : List Relocation) → list_any (uses_line L n) rs ≡ (list_any (is_use_of n) rs && may_have_line)
    uses_are [] = refl
    uses_are (r ∷ rs) =
        ap (λ b. b || list_any (uses_line L n) rs) (use_is r)
        ∙ ap (λ b. (is_use_of n r && may_have_line) || b) (uses_are rs)
        ∙ either (is_use_of n r) (list_any (is_use_of n) rs) may_have_line
      where
        either : (a b c : Bool) → ((a && c) || (b && c)) ≡ ((a || b) && c)
        either true b true = refl
        either true true false = refl
        either true false false = refl
        either false b c = refl

  -- a set that has just the names that all relocations use has those of the linker's lines
  pub line_among :
      (names : Names) → ((n : List ℕ) → is_among names n ≡ list_any (uses_line L n) (relocations L)) →
      (n : List ℕ) → cond (is_among names n) (option_map (Linker n) (bound_of L n)) None ≡ linker_line L n
  line_among names has n =
      ap (λ b. cond {A = Option Meaning} b (option_map (Linker n) (bound_of L n)) None) (has n ∙ uses_are n (relocations L))
      ∙ by (is_used L n) (is_some (chosen L n)) (bound_of L n)
    where
      by :
          (used some : Bool) (o : Option Bound) →
          cond {A = Option Meaning} (used && (is_some o && not some)) (option_map (Linker n) o) None
          ≡ cond (used && not some) (option_map (Linker n) o) None
      by true true None = refl
      by true true (Some b) = refl
      by true false None = refl
      by true false (Some b) = refl
      by false some o = refl
