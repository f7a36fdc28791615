-- An entry is what a LOCAL symbol of its name asks for exactly where the table of these has one that it fits.
use Rattle.std.proofs.Common.{◌≡◌, ◌∙◌, ℕ, ◌⊎◌, inl, inr, ◌&&◌, Bool, true, false, cond, not, List, [], Option, None, Some, refl, sym, ap, subst, true≢false}
use Rattle.std.specs.Prelude.{All, Any, Contains, IsPermutation, option_map}
use Rattle.std.specs.List.{position}
use Rattle.std.specs.Option.{option_and_then}
use Rattle.std.specs.Str.{bytes_eq}
use Rattle.std.proofs.lemmas.List.Sorted.{All-permutation, Contains-permutation, IsPermutation-sym}
use Rattle.std.proofs.lemmas.Option.{none-some, same_Some}
use Rattle.std.proofs.lemmas.Slice.Eq.{bytes_eq-Decides}
use Rattle.elf_model.proofs.Finding.{Any-from_contains}
use Rattle.elf_model.proofs.Listed.{All-from_contains, Contains-flat_map, Contains-from_flat_map, Contains-here, Contains-nil, Contains-cons_cases}
use Rattle.elf_model.specs.Link.Meaning.{Symbol}
use Rattle.elf_model.specs.Link.Relocation.{is_local}
use Rattle.elf_model.specs.Link.Resolution.{SymbolOf, is_undefined}
use Rattle.elf_model.specs.declared.records.SectionHeader.{SectionHeader}
use Rattle.elf_model.specs.declared.records.Symbol as entry
use Rattle.check_load.proofs.Numbering.{known_with, number_once}
use Rattle.check_load.specs.NameNumbers.{is_among}
use Rattle.link_fields.specs.Parts.{Parts, symbol_value}
use Rattle.symbol_judge.specs.Locals.{IsLocalBy, is_candidate, key_of, listed, local_in, local_with, locals_in, numbered}
use Rattle.symbol_judge.specs.Wanted.{Fits, wanted_of}
use Rattle.symbol_judge.specs.declared.locals.Local.{Local}
use Rattle.symbol_judge.specs.declared.wanted.Wanted.{Wanted}

-- names that have one number are one
pub same_number :
    (names : List (List ℕ)) (a b : List ℕ) (k : ℕ) → position (bytes_eq a) names ≡ Some k → position (bytes_eq b) names ≡ Some k → bytes_eq a b ≡ true
same_number names a b k at_a at_b =
    let f = known_with names a k at_a in
    let g = known_with names b k at_b in
    number_once names a b (there (is_among names a) f.2) (sym g.1 ∙ f.1)
  where
    there : (t : Bool) → false ≡ not t → t ≡ true
    there true e = refl
    there false e = absurd (true≢false (sym e))

-- what a list of one at most has
listed_has : {X : Type 0} (o : Option X) (x : X) → Contains (listed o) x → o ≡ Some x
listed_has None x c = absurd (Contains-nil x c)
listed_has {X} (Some y) x c = by (Contains-cons_cases y [] x c)
  where
    by : (y ≡ x) ⊎ Contains [] x → Some y ≡ Some x
    by (inl e) = ap (λ (z : X). Some z) e
    by (inr never) = absurd (Contains-nil x never)

-- a symbol of a name that an entry fits
pub record IsLocalOfIn (p : Parts) (hs : List SectionHeader) (name : List ℕ) (e : entry.Symbol) (s : SymbolOf) : Type 0 where
  pub local : is_local s ≡ true
  pub named : bytes_eq s.name name ≡ true
  pub defined : is_undefined s.entry ≡ false
  pub value : ℕ
  pub value_is : symbol_value p.placed p.merged s ≡ Some value
  pub fits : Fits hs e (wanted_of p.objects p.placed (Symbol s) value)

module _ (p : Parts) (names : List (List ℕ)) where
  -- what is kept of a symbol
  record IsOf (s : SymbolOf) (x : Local) : Type 0 where
    local : is_local s ≡ true
    defined : is_undefined s.entry ≡ false
    value : ℕ
    value_is : symbol_value p.placed p.merged s ≡ Some value
    number_is : position (bytes_eq s.name) names ≡ Some x.number
    is : x ≡ local_with x.number (wanted_of p.objects p.placed (Symbol s) value)

  both : (a b : Bool) → (a && not b) ≡ true → (a ≡ true) × (b ≡ false)
  both true false e = (refl, refl)
  both true true e = absurd (true≢false (sym e))
  both false b e = absurd (true≢false (sym e))

  kept : (s : SymbolOf) (x : Local) → local_in p names s ≡ Some x → IsOf s x
  kept s x e = by (is_candidate s) (position (bytes_eq s.name) names) (symbol_value p.placed p.merged s) refl refl refl e
    where
      by : (b : Bool) (o u : Option ℕ) → is_candidate s ≡ b → position (bytes_eq s.name) names ≡ o → symbol_value p.placed p.merged s ≡ u →
          cond b (option_and_then (λ k. option_map (local_with k) (option_map (wanted_of p.objects p.placed (Symbol s)) u)) o) None ≡ Some x → IsOf s x
      by false o u c d f is = absurd (none-some x is)
      by true None u c d f is = absurd (none-some x is)
      by true (Some k) None c d f is = absurd (none-some x is)
      by true (Some k) (Some v) c d f is =
          let same = same_Some _ x is in
          let number : k ≡ x.number = ap (λ (y : Local). y.number) same in
          let facts = both (is_local s) (is_undefined s.entry) c in
          record {
            local = facts.0;
            defined = facts.1;
            value = v;
            value_is = f;
            number_is = d ∙ ap (λ (n : ℕ). Some n) number;
            is = sym same ∙ ap (λ (n : ℕ). local_with n (wanted_of p.objects p.placed (Symbol s) v)) number;
          }

  keeps :
      (s : SymbolOf) (k v : ℕ) → is_local s ≡ true → is_undefined s.entry ≡ false → position (bytes_eq s.name) names ≡ Some k →
      symbol_value p.placed p.merged s ≡ Some v → local_in p names s ≡ Some (local_with k (wanted_of p.objects p.placed (Symbol s) v))
  keeps s k v local defined number value =
      ap (λ (b : Bool). cond (b && not (is_undefined s.entry)) (option_and_then (numbered p s) (position (bytes_eq s.name) names)) None) local
      ∙ (ap (λ (b : Bool). cond (not b) (option_and_then (numbered p s) (position (bytes_eq s.name) names)) None) defined
      ∙ (ap (option_and_then (numbered p s)) number
      ∙ ap (λ (u : Option ℕ). option_map (local_with k) (option_map (wanted_of p.objects p.placed (Symbol s)) u)) value))

  module _ (hs : List SectionHeader) (name : List ℕ) (e : entry.Symbol) (k : ℕ) (number : position (bytes_eq name) names ≡ Some k) (ss : List SymbolOf) (table : List Local) (same : IsPermutation (locals_in p names ss) table) where
    abbrev list : SymbolOf → List Local
    list s = listed (local_in p names s)

    pub symbol_of : Any (IsLocalBy hs k e) table → Any (IsLocalOfIn p hs name e) ss
    symbol_of (i, x, low, at, b) =
        let c = Contains-permutation table (locals_in p names ss) x (IsPermutation-sym (locals_in p names ss) table same) (i, low, at) in
        let f = Contains-from_flat_map list ss x c in
        let o = kept f.of x (listed_has (local_in p names f.of) x f.within) in
        let own : position (bytes_eq f.of.name) names ≡ Some k = o.number_is ∙ ap (λ (n : ℕ). Some n) b.number_is in
        let wanted = ap (λ (y : Local). y.wanted) o.is in
        Any-from_contains (IsLocalOfIn p hs name e) ss f.of f.there
        (record {
          local = o.local;
          named = same_number names f.of.name name k own number;
          defined = o.defined;
          value = o.value;
          value_is = o.value_is;
          fits = subst (Fits hs e) wanted b.fits;
        })

    pub entry_of : Any (IsLocalOfIn p hs name e) ss → Any (IsLocalBy hs k e) table
    entry_of (i, s, low, at, h) =
        let names_are = (bytes_eq-Decides s.name name).0 h.named in
        let own = subst (λ (n : List ℕ). position (bytes_eq n) names ≡ Some k) (sym names_are) number in
        let x = local_with k (wanted_of p.objects p.placed (Symbol s) h.value) in
        let here : Contains (list s) x = subst (λ (o : Option Local). Contains (listed o) x) (sym (keeps s k h.value h.local h.defined own h.value_is)) (Contains-here [] x) in
        let c = Contains-permutation (locals_in p names ss) table x same (Contains-flat_map list ss s x (i, low, at) here) in
        Any-from_contains (IsLocalBy hs k e) table x c (record { number_is = refl; fits = h.fits })

-- the keys of what is kept are right, in any order
own_key : (x : Local) (number : ℕ) (w : Wanted) → x ≡ local_with number w → x.key ≡ key_of x.number x.wanted.value
own_key x number w is = subst (λ (y : Local). y.key ≡ key_of y.number y.wanted.value) (sym is) refl

pub keys_are :
    (p : Parts) (names : List (List ℕ)) (ss : List SymbolOf) (table : List Local) → IsPermutation (locals_in p names ss) table →
    All (λ x. x.key ≡ key_of x.number x.wanted.value) table
keys_are p names ss table same =
    All-permutation (λ (x : Local). x.key ≡ key_of x.number x.wanted.value) (locals_in p names ss) table same
    (All-from_contains (λ (x : Local). x.key ≡ key_of x.number x.wanted.value) (locals_in p names ss)
    (λ x there.
    let f = Contains-from_flat_map (λ (s : SymbolOf). listed (local_in p names s)) ss x there in
    let o = kept p names f.of x (listed_has (local_in p names f.of) x f.within) in
    own_key x x.number _ o.is))
