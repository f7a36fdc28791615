-- The lines of a map as a chain: which line may follow which.
use Rattle.std.proofs.Common.{◌≡◌, ℕ, suc, ◌+◌, ◌<◌, ◌≤◌, ◌⊎◌, inl, inr, List, [], ◌∷◌, ◌++◌, map, get_or, Option, Some, None, refl, sym, subst, arith}
use Rattle.std.specs.Prelude.{option_to_list}
use Rattle.std.proofs.lemmas.List.{append_assoc}
use Rattle.elf_model.specs.declared.link_map.SymtabLine.{SymtabLine}
use Rattle.elf_model.specs.Image.MapRecord.{MapRecord, ObjectRow}
use Rattle.elf_model.specs.Image.MapText.{Line, Version, Object, Drop, Place, Common, Got, Slot, Symbol, Symtab, End, body, DropBefore, PlaceBefore, CommonBefore, SlotBefore, SymbolBefore, Ascends, AreNumbered, IsVersioned, IsOrdered}

-- the place of a line's kind in a map
abbrev pub rank : Line → ℕ
rank (Version n) = 0
rank (Object o) = 1
rank (Drop d) = 2
rank (Place p) = 3
rank (Common c) = 4
rank (Got g) = 5
rank (Slot s) = 6
rank (Symbol s) = 7
rank (Symtab t) = 8
rank End = 9

-- the line may be the first of its kind in a map of version v
abbrev pub Starts : ℕ → Line → Type 0
Starts v (Object o) = o.object ≡ 0
Starts v (Symtab t) = v ≡ 2
Starts v l = Unit {0}

abbrev pub Next : Line → Line → Type 0
Next (Object p) (Object q) = q.object ≡ p.object + 1
Next (Drop p) (Drop q) = DropBefore p q
Next (Place p) (Place q) = PlaceBefore p q
Next (Common p) (Common q) = CommonBefore p q
Next (Slot p) (Slot q) = SlotBefore p q
Next (Symbol p) (Symbol q) = SymbolBefore p q
Next p q = ⊥

-- a line of a later kind, or the next of the same kind
abbrev pub Follows : ℕ → Line → Line → Type 0
Follows v p l = ((rank p < rank l) × Starts v l) ⊎ Next p l

abbrev pub Chain : ℕ → Line → List Line → Type 0
Chain v p [] = Unit {0}
Chain v p (l ∷ ls) = Follows v p l × Chain v l ls

abbrev pub last : Line → List Line → Line
last p [] = p
last p (l ∷ ls) = last l ls

next_rank : (p l : Line) → Next p l → rank p ≡ rank l
next_rank (Object p) (Object q) h = refl
next_rank (Drop p) (Drop q) h = refl
next_rank (Place p) (Place q) h = refl
next_rank (Common p) (Common q) h = refl
next_rank (Slot p) (Slot q) h = refl
next_rank (Symbol p) (Symbol q) h = refl
next_rank p q h = absurd h

pub follows_rank : (v : ℕ) (p l : Line) → Follows v p l → rank p ≤ rank l
follows_rank v p l (inl h) = omega (arith, h.0)
follows_rank v p l (inr h) = omega (arith, next_rank p l h)

pub after_end : (v : ℕ) (l : Line) → Follows v End l → ⊥
after_end v (Version n) (inl h) = omega (arith, h.0)
after_end v (Object o) (inl h) = omega (arith, h.0)
after_end v (Drop o) (inl h) = omega (arith, h.0)
after_end v (Place o) (inl h) = omega (arith, h.0)
after_end v (Common o) (inl h) = omega (arith, h.0)
after_end v (Got o) (inl h) = omega (arith, h.0)
after_end v (Slot o) (inl h) = omega (arith, h.0)
after_end v (Symbol o) (inl h) = omega (arith, h.0)
after_end v (Symtab o) (inl h) = omega (arith, h.0)
after_end v End (inl h) = omega (arith, h.0)
after_end v l (inr h) = absurd h

pub last-append : (p : Line) (us vs : List Line) → last p (us ++ vs) ≡ last (last p us) vs
last-append p [] vs = refl
last-append p (u ∷ us) vs = last-append u us vs

pub chain_at : (v : ℕ) (p : Line) (us : List Line) (l : Line) (vs : List Line) → Chain v p (us ++ l ∷ vs) → Follows v (last p us) l
chain_at v p [] l vs h = h.0
chain_at v p (u ∷ us) l vs h = chain_at v u us l vs h.1

-- nothing stands behind the last line
pub none_after_end : (v : ℕ) (p : Line) (us : List Line) (l : Line) (vs : List Line) → Chain v p ((us ++ End ∷ []) ++ l ∷ vs) → ⊥
none_after_end v p us l vs h =
    let f = chain_at v p (us ++ End ∷ []) l vs h in
    after_end v l (subst (λ (w : Line). Follows v w l) (last-append p us (End ∷ [])) f)

-- a list of one kind in order, and what follows it
module _ (v : ℕ) {X : Type 0} (kind : X → Line) (R : X → X → Type 0) (k : ℕ) (ranked : (x : X) → rank (kind x) ≡ k) (step : (x y : X) → R x y → Next (kind x) (kind y)) (ls : List Line) (next : (q : Line) → rank q ≤ k → Chain v q ls) where
  ascends_tail : (x : X) (xs : List X) → Ascends R (x ∷ xs) → Ascends R xs
  ascends_tail x xs h i d l =
      let e : suc i + 1 ≡ suc (i + 1) = omega arith in
      subst (λ n. R (get_or xs i d) (get_or (x ∷ xs) n d)) e (h (suc i) d (omega arith))

  run : (x : X) (xs : List X) → Ascends R (x ∷ xs) → Chain v (kind x) (map kind xs ++ ls)
  run x [] h = next (kind x) (omega (arith, ranked x))
  run x (y ∷ ys) h = (inr (step x y (h 0 x (omega arith))), run y ys (ascends_tail x (y ∷ ys) h))

  segment : (p : Line) → rank p < k → (xs : List X) → ((x : X) (ys : List X) → xs ≡ x ∷ ys → Starts v (kind x)) → Ascends R xs → Chain v p (map kind xs ++ ls)
  segment p below [] starts h = next p (omega arith)
  segment p below (x ∷ xs) starts h = (inl (omega (arith, ranked x), starts x xs refl), run x xs h)

ascends_once : {X : Type 0} (o : Option X) → Ascends (λ p q. ⊥) (option_to_list o)
ascends_once None k d l = absurd (omega arith)
ascends_once (Some x) k d l = absurd (omega arith)

-- a map with the line of a symbol table is of version 2
first_symtab : (m : MapRecord) → IsVersioned m → (t : SymtabLine) (rest : List SymtabLine) → option_to_list m.symtab ≡ t ∷ rest → m.version ≡ 2
first_symtab m (inl h) t rest e = absurd (nothing m.symtab h.1 e) where
  nothing : (o : Option SymtabLine) → o ≡ None → option_to_list o ≡ t ∷ rest → ⊥
  nothing None f e = cc
  nothing (Some x) f e = cc
first_symtab m (inr h) t rest e = h

numbered_ascends : (os : List ObjectRow) → AreNumbered os → Ascends (λ p q. q.object ≡ p.object + 1) os
numbered_ascends os h k d l = omega (arith, h k d (omega arith), h (k + 1) d l)

numbered_first : (os : List ObjectRow) → AreNumbered os → (o : ObjectRow) (rest : List ObjectRow) → os ≡ o ∷ rest → o.object ≡ 0
numbered_first os h o rest e =
    let g = subst (λ (w : List ObjectRow). AreNumbered w) e h in g 0 o (omega arith)

-- the lines of a map from one kind on
abbrev pub from_symtab : MapRecord → List Line
from_symtab m = map Symtab (option_to_list m.symtab)

abbrev pub from_symbols : MapRecord → List Line
from_symbols m = map Symbol m.symbols ++ from_symtab m

abbrev pub from_slots : MapRecord → List Line
from_slots m = map Slot m.slots ++ from_symbols m

abbrev pub from_got : MapRecord → List Line
from_got m = map Got (option_to_list m.got) ++ from_slots m

abbrev pub from_commons : MapRecord → List Line
from_commons m = map Common m.commons ++ from_got m

abbrev pub from_places : MapRecord → List Line
from_places m = map Place m.places ++ from_commons m

abbrev pub from_drops : MapRecord → List Line
from_drops m = map Drop m.drops ++ from_places m

abbrev pub tail : MapRecord → List Line
tail m = body m ++ End ∷ []

nested : (a b c d e f g h : List Line) (l : Line) → (a ++ (b ++ (c ++ (d ++ (e ++ (f ++ (g ++ h))))))) ++ l ∷ [] ≡ a ++ (b ++ (c ++ (d ++ (e ++ (f ++ (g ++ (h ++ l ∷ [])))))))
nested a b c d e f g h l = simp append_assoc

pub ordered_chain : (m : MapRecord) → IsOrdered m → Chain m.version (Version m.version) (tail m)
unfolding body
ordered_chain m o =
    subst (Chain m.version (Version m.version)) (sym (nested (map Object m.objects) (map Drop m.drops) (map Place m.places) (map Common m.commons) (map Got (option_to_list m.got)) (map Slot m.slots) (map Symbol m.symbols) (map Symtab (option_to_list m.symtab)) End))
    (segment m.version Object (λ p q. q.object ≡ p.object + 1) 1 (λ x. refl) (λ x y r. r) _ (λ q r.
    segment m.version Drop DropBefore 2 (λ x. refl) (λ x y h. h) _ (λ q r.
    segment m.version Place PlaceBefore 3 (λ x. refl) (λ x y h. h) _ (λ q r.
    segment m.version Common CommonBefore 4 (λ x. refl) (λ x y h. h) _ (λ q r.
    segment m.version Got (λ x y. ⊥) 5 (λ x. refl) (λ x y h. h) _ (λ q r.
    segment m.version Slot SlotBefore 6 (λ x. refl) (λ x y h. h) _ (λ q r.
    segment m.version Symbol SymbolBefore 7 (λ x. refl) (λ x y h. h) _ (λ q r.
    segment m.version Symtab (λ x y. ⊥) 8 (λ x. refl) (λ x y h. h) (End ∷ []) (λ q r. (inl (omega arith, tt), tt))
    q (omega arith) (option_to_list m.symtab) (first_symtab m o.version) (ascends_once m.symtab))
    q (omega arith) m.symbols (λ x ys e. tt) o.symbols)
    q (omega arith) m.slots (λ x ys e. tt) o.slots)
    q (omega arith) (option_to_list m.got) (λ x ys e. tt) (ascends_once m.got))
    q (omega arith) m.commons (λ x ys e. tt) o.commons)
    q (omega arith) m.places (λ x ys e. tt) o.places)
    q (omega arith) m.drops (λ x ys e. tt) o.drops)
    (Version m.version) (omega arith) m.objects (numbered_first m.objects o.objects) (numbered_ascends m.objects o.objects))
