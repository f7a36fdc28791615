-- The symbols of all objects, each found again by its object's and its own number.
use Rattle.std.proofs.Common.{◌≡◌, ℕ, zero, suc, ◌+◌, Bool, true, false, cond, List, [], ◌∷◌, refl, sym, ◌∙◌, ap, subst, arith}
use Rattle.std.specs.Prelude.{All, filter, find, None, Option, Some, option_map, slice_get}
use Rattle.std.specs.Option.{option_and_then}
use Rattle.std.proofs.lemmas.List.Elements.{All-append, All-cons, All-head, All-nil, All-tail}
use Rattle.std.proofs.lemmas.Option.{get_or_from_slice_get, none-some, same_Some, slice_get_within}
use Rattle.elf_model.specs.Link.Loading.{LoadedObject}
use Rattle.elf_model.specs.Inputs.ObjectFile.{symbols}
use Rattle.elf_model.specs.Link.Resolution.{SymbolOf, all_symbols, symbol_of, symbols_from, symbols_of}
use Rattle.elf_model.specs.declared.records.Symbol.{Symbol}
use Rattle.resolve.specs.Places.{symbol_numbered}
use Rattle.elf_model.proofs.Listed.{All-parts}

-- what holds of each element holds of the one at a place
pub All-at : {X : Type 0} (P : X → Type 0) (xs : List X) (i : ℕ) (x : X) → All P xs → slice_get xs i ≡ Some x → P x
All-at P xs i x all at = subst P (get_or_from_slice_get xs i x x at) (all i x (slice_get_within xs i x at))

-- what holds of each element holds of the one that a search finds
pub All-found : {X : Type 0} (P : X → Type 0) (p : X → Bool) (xs : List X) (x : X) → All P xs → find p xs ≡ Some x → P x
All-found {X} P p [] x all found = absurd (none-some x found)
All-found {X} P p (y ∷ ys) x all found = by (p y) refl (All-found P p ys x (All-tail P y ys all))
  where
    by : (b : Bool) → p y ≡ b → (find p ys ≡ Some x → P x) → P x
    by true e rest =
        subst P (same_Some y x (sym (ap (λ b. cond b (Some y) (find p ys)) e) ∙ found)) (All-head P y ys all)
    by false e rest = rest (sym (ap (λ b. cond b (Some y) (find p ys)) e) ∙ found)

-- what holds of each element that passes a test
pub All-kept : {X : Type 0} (P : X → Type 0) (p : X → Bool) (xs : List X) → All P (filter p xs) → All (λ x. p x ≡ true → P x) xs
All-kept {X} P p [] all = All-nil (λ (x : X). p x ≡ true → P x)
All-kept {X} P p (x ∷ xs) all = by (p x) refl (All-kept P p xs)
  where
    by :
        (b : Bool) → p x ≡ b → (All P (filter p xs) → All (λ x. p x ≡ true → P x) xs) →
        All (λ x. p x ≡ true → P x) (x ∷ xs)
    by true e rest =
        let is : All P (x ∷ filter p xs) = subst (λ b. All P (cond b (x ∷ filter p xs) (filter p xs))) e all in
        All-cons (λ (y : X). p y ≡ true → P y) x xs (λ t. All-head P x (filter p xs) is) (rest (All-tail P x (filter p xs) is))
    by false e rest =
        let is : All P (filter p xs) = subst (λ b. All P (cond b (x ∷ filter p xs) (filter p xs))) e all in
        All-cons (λ (y : X). p y ≡ true → P y) x xs (λ t. absurd (let f : false ≡ true = sym e ∙ t in cc)) (rest is)

-- symbol number j of those from number i on
pub symbol_got :
    (object : ℕ) (o : LoadedObject) (i : ℕ) (ss : List Symbol) (j : ℕ) →
    slice_get (symbols_from object o i ss) j ≡ option_map (symbol_of object o (i + j)) (slice_get ss j)
symbol_got object o i [] j = refl
symbol_got object o i (s ∷ ss) zero =
    let e : i ≡ i + 0 = omega arith in ap (λ (k : ℕ). Some (symbol_of object o k s)) e
symbol_got object o i (s ∷ ss) (suc j) =
    let e : (i + 1) + j ≡ i + suc j = omega arith in
    symbol_got object o (i + 1) ss j ∙ ap (λ (k : ℕ). option_map (symbol_of object o k) (slice_get ss j)) e

module _ (L : List LoadedObject) where
  -- a symbol stands at its numbers
  pub record IsAt (s : SymbolOf) : Type 0 where
    pub is : symbol_numbered L s.object s.number ≡ Some s

  located_from :
      (k : ℕ) (o : LoadedObject) → slice_get L k ≡ Some o → (j : ℕ) (ss : List Symbol) →
      ((m : ℕ) → slice_get ss m ≡ slice_get (symbols o.bytes) (j + m)) → All IsAt (symbols_from k o j ss)
  located_from k o at j [] same = All-nil IsAt
  located_from k o at j (s ∷ ss) same =
      let zero_more : j + 0 ≡ j = omega arith in
      let here : slice_get (symbols o.bytes) j ≡ Some s = ap (slice_get (symbols o.bytes)) (sym zero_more) ∙ sym (same 0) in
      let behind : (m : ℕ) → slice_get ss m ≡ slice_get (symbols o.bytes) ((j + 1) + m) =
      λ m. same (suc m) ∙ (let e : j + suc m ≡ (j + 1) + m = omega arith in ap (slice_get (symbols o.bytes)) e) in
      All-cons IsAt (symbol_of k o j s) (symbols_from k o (j + 1) ss)
      (record {
        is =
            ap (option_and_then (λ (x : LoadedObject). option_map (symbol_of k x j) (slice_get (symbols x.bytes) j))) at
            ∙ ap (option_map (symbol_of k o j)) here;
      })
      (located_from k o at (j + 1) ss behind)

  located_of :
      (k : ℕ) (os : List LoadedObject) → ((m : ℕ) → slice_get os m ≡ slice_get L (k + m)) → All IsAt (symbols_of k os)
  located_of k [] same = All-nil IsAt
  located_of k (o ∷ os) same =
      let zero_more : k + 0 ≡ k = omega arith in
      let here : slice_get L k ≡ Some o = ap (slice_get L) (sym zero_more) ∙ sym (same 0) in
      let behind : (m : ℕ) → slice_get os m ≡ slice_get L ((k + 1) + m) =
      λ m. same (suc m) ∙ (let e : k + suc m ≡ (k + 1) + m = omega arith in ap (slice_get L) e) in
      All-append IsAt (symbols_from k o 0 (symbols o.bytes)) (symbols_of (k + 1) os)
      (located_from k o here 0 (symbols o.bytes) (λ m. let e : m ≡ 0 + m = omega arith in ap (slice_get (symbols o.bytes)) e))
      (located_of (k + 1) os behind)

  pub located : All IsAt (all_symbols L)
  located = located_of 0 L (λ m. let e : m ≡ 0 + m = omega arith in ap (slice_get L) e)

  -- what a symbol that stands at its numbers is made of
  pub found_at :
      (k j : ℕ) (s : SymbolOf) → symbol_numbered L k j ≡ Some s →
      (o : LoadedObject) × (e : Symbol) × (slice_get L k ≡ Some o) × (slice_get (symbols o.bytes) j ≡ Some e) × (symbol_of k o j e ≡ s)
  found_at k j s is = by (slice_get L k) refl is
    where
      entry :
          (o : LoadedObject) → slice_get L k ≡ Some o → (r : Option Symbol) → slice_get (symbols o.bytes) j ≡ r →
          option_map (symbol_of k o j) r ≡ Some s →
          (o : LoadedObject) × (e : Symbol) × (slice_get L k ≡ Some o) × (slice_get (symbols o.bytes) j ≡ Some e) × (symbol_of k o j e ≡ s)
      entry o at None got e = absurd (none-some s e)
      entry o at (Some x) got e = (o, x, at, got, same_Some (symbol_of k o j x) s e)

      by :
          (r : Option LoadedObject) → slice_get L k ≡ r →
          option_and_then (λ (o : LoadedObject). option_map (symbol_of k o j) (slice_get (symbols o.bytes) j)) r ≡ Some s →
          (o : LoadedObject) × (e : Symbol) × (slice_get L k ≡ Some o) × (slice_get (symbols o.bytes) j ≡ Some e) × (symbol_of k o j e ≡ s)
      by None at e = absurd (none-some s e)
      by (Some o) at e = entry o at (slice_get (symbols o.bytes) j) refl e

  -- what holds of all symbols holds of one that stands at its numbers
  module _ (P : SymbolOf → Type 0) where
    at_numbers :
        (k : ℕ) (os : List LoadedObject) (m j : ℕ) (o : LoadedObject) (e : Symbol) → All P (symbols_of k os) →
        slice_get os m ≡ Some o → slice_get (symbols o.bytes) j ≡ Some e → P (symbol_of (k + m) o j e)
    at_numbers k [] m j o e all at got = absurd (none-some o at)
    at_numbers k (x ∷ os) zero j o e all at got =
        let zero_more : k + 0 ≡ k = omega arith in
        let is : x ≡ o = same_Some x o at in
        let here : slice_get (symbols x.bytes) j ≡ Some e = ap (λ (y : LoadedObject). slice_get (symbols y.bytes) j) is ∙ got in
        let front = (All-parts P (symbols_from k x 0 (symbols x.bytes)) (symbols_of (k + 1) os) all).0 in
        let no_more : 0 + j ≡ j = omega arith in
        subst (λ (y : LoadedObject). P (symbol_of (k + 0) y j e)) is
        (subst (λ (i : ℕ). P (symbol_of i x j e)) (sym zero_more)
        (subst (λ (i : ℕ). P (symbol_of k x i e)) no_more
        (All-at P (symbols_from k x 0 (symbols x.bytes)) j (symbol_of k x (0 + j) e) front
        (symbol_got k x 0 (symbols x.bytes) j ∙ ap (option_map (symbol_of k x (0 + j))) here))))
    at_numbers k (x ∷ os) (suc m) j o e all at got =
        let more : (k + 1) + m ≡ k + suc m = omega arith in
        subst (λ (i : ℕ). P (symbol_of i o j e)) more
        (at_numbers (k + 1) os m j o e (All-parts P (symbols_from k x 0 (symbols x.bytes)) (symbols_of (k + 1) os) all).1 at got)

    pub at_symbol : (k j : ℕ) (s : SymbolOf) → All P (all_symbols L) → symbol_numbered L k j ≡ Some s → P s
    at_symbol k j s all is =
        let f = found_at k j s is in
        let no_more : 0 + k ≡ k = omega arith in
        subst P f.4 (subst (λ (i : ℕ). P (symbol_of i f.0 j f.1)) no_more (at_numbers 0 L k j f.0 f.1 all f.2 f.3))
