-- A map that grows by a line: what may follow its last line may stand next, and the map with that line is a
-- map again.
use Rattle.std.proofs.Common.{◌≡◌, ℕ, ◌+◌, ◌-◌, ◌<◌, ◌≤◌, ◌⊎◌, inl, inr, List, [], ◌∷◌, ◌++◌, map, length, get_or, Option, Some, None, refl, sym, ap, ◌∙◌, subst, arith}
use Rattle.std.specs.Prelude.{slice_get, option_to_list, All, MatchOption, ⊤}
use Rattle.std.proofs.lemmas.Bool.{cases_lt}
use Rattle.std.proofs.lemmas.List.{append_assoc, append-nil, nil_from_length, get_or_append_left, get_or_push, length_push, map_push}
use Rattle.std.proofs.lemmas.List.Elements.{All-nil, All-cons, All-head, All-tail, All-append, All-map, All-push}
use Rattle.std.proofs.lemmas.Option.{slice_get-get_or, MatchOption-at_some}
use Rattle.elf_model.specs.declared.link_map.GotLine.{GotLine}
use Rattle.elf_model.specs.declared.link_map.SymtabLine.{SymtabLine}
use Rattle.elf_model.specs.Image.MapRecord.{MapRecord, ObjectRow}
use Rattle.elf_model.specs.Image.MapText.{Line, Version, Object, Drop, Place, Common, Got, Slot, Symbol, Symtab, End, body, DropBefore, PlaceBefore, CommonBefore, SlotBefore, SymbolBefore, Ascends, AreNumbered, IsOrdered, Fits, FitsObject, FitsDrop, FitsPlace, FitsCommon, FitsGot, FitsSlot, FitsSymbol, FitsSymtab, IsMap}
use Rattle.linkmap.specs.Order.{EndsBeforeDrops, EndsBeforePlaces, EndsBeforeCommons, EndsBeforeGot, EndsBeforeSlots, EndsBeforeSymbols, EndsBeforeSymtab, IsAboveLast, MayStand, add}
use Rattle.linkmap.proofs.ChainLaws.{rank, Next, Follows, last, last-append, follows_rank, from_drops, from_places, from_commons, from_got, from_slots, from_symbols, from_symtab}
use Rattle.linkmap.proofs.LineLaws.{FitsLine}

-- the last element of a list that has one
last_of : {X : Type 0} → X → List X → X
last_of x [] = x
last_of x (y ∷ ys) = last_of y ys

slice_get_last : {X : Type 0} (x : X) (xs : List X) → slice_get (x ∷ xs) (length xs) ≡ Some (last_of x xs)
unfolding last_of
slice_get_last x [] = refl
slice_get_last x (y ∷ ys) = slice_get_last y ys

get_or_last : {X : Type 0} (x : X) (xs : List X) (d : X) → get_or (x ∷ xs) (length xs) d ≡ last_of x xs
unfolding last_of
get_or_last x [] d = refl
get_or_last x (y ∷ ys) d = get_or_last y ys d

last-map : {X : Type 0} (kind : X → Line) (x : X) (xs : List X) → last (kind x) (map kind xs) ≡ kind (last_of x xs)
unfolding last_of
last-map kind x [] = refl
last-map kind x (y ∷ ys) = last-map kind y ys

-- no line of a later kind stands before one that may follow
last_high : (k : ℕ) (x : Line) (ls : List Line) → All (λ l. k < rank l) (x ∷ ls) → k < rank (last x ls)
last_high k x [] h = All-head (λ l. k < rank l) x [] h
last_high k x (y ∷ ls) h = last_high k y ls (All-tail (λ l. k < rank l) x (y ∷ ls) h)

later_none : (v k : ℕ) (q : Line) (ls : List Line) (l : Line) → rank l ≤ k → All (λ x. k < rank x) ls → Follows v (last q ls) l → ls ≡ []
later_none v k q [] l low high f = refl
later_none v k q (x ∷ ls) l low high f = absurd (omega (arith, last_high k x ls high, follows_rank v (last x ls) l f))

-- some line, behind which come these lines and then this one, in a map of version v
record Behind (v : ℕ) (ls : List Line) (l : Line) : Type 0 where
  front : Line
  follows : Follows v (last front ls) l

past : {v : ℕ} (us vs : List Line) (l : Line) → Behind v (us ++ vs) l → Behind v vs l
past {v} us vs l b = record { front = last b.front us; follows = subst (λ (w : Line). Follows v w l) (last-append b.front us vs) b.follows }

behind_none : {v : ℕ} (us vs : List Line) (l : Line) → vs ≡ [] → Behind v (us ++ vs) l → Behind v us l
behind_none {v} us vs l e b = subst (λ (w : List Line). Behind v w l) (ap (λ w. us ++ w) e ∙ append-nil us) b

none_later : {v : ℕ} (k : ℕ) (ls : List Line) (l : Line) → rank l ≤ k → All (λ x. k < rank x) ls → Behind v ls l → ls ≡ []
none_later {v} k ls l low high b = later_none v k b.front ls l low high b.follows

-- what follows the last of its own kind is above it
module _ (v : ℕ) {X : Type 0} (kind : X → Line) (R : X → X → Type 0) (same : (x y : X) → rank (kind x) ≡ rank (kind y)) (step : (x y : X) → Next (kind x) (kind y) → R x y) where
  follows_same : (x y : X) → Follows v (kind x) (kind y) → R x y
  follows_same x y (inl h) = absurd (omega (arith, same x y, h.0))
  follows_same x y (inr h) = step x y h

  above_last : (xs : List X) (y : X) → Behind v (map kind xs) (kind y) → IsAboveLast R xs y
  above_last [] y b = tt
  above_last (x ∷ xs) y b =
      let r = follows_same (last_of x xs) y (subst (λ (w : Line). Follows v w (kind y)) (last-map kind x xs) b.follows) in
      let short : length (x ∷ xs) - 1 ≡ length xs = omega arith in
      let e = ap (slice_get (x ∷ xs)) short ∙ slice_get_last x xs in
      subst (λ (o : Option X). MatchOption o ⊤ (λ p. R p y)) (sym e) r

  -- where lines of later kinds follow these, there are none
  last_above :
      {E : Type 0} (k : ℕ) (xs : List X) (later : List Line) (y : X) → rank (kind y) ≤ k → All (λ x. k < rank x) later →
      (later ≡ [] → E) → Behind v (map kind xs ++ later) (kind y) → E × IsAboveLast R xs y
  last_above k xs later y low high ends b =
      let none = none_later k later (kind y) low high (past (map kind xs) later (kind y) b) in
      (ends none, above_last xs y (behind_none (map kind xs) later (kind y) none b))

-- lines from one kind on are of a high rank
pub high_symtab : (m : MapRecord) (k : ℕ) → k < 8 → All (λ x. k < rank x) (from_symtab m)
high_symtab m k l = All-map (λ x. k < rank x) Symtab (option_to_list m.symtab) (λ i d h. l)

pub high_symbols : (m : MapRecord) (k : ℕ) → k < 7 → All (λ x. k < rank x) (from_symbols m)
high_symbols m k l = All-append (λ x. k < rank x) (map Symbol m.symbols) (from_symtab m) (All-map (λ x. k < rank x) Symbol m.symbols (λ i d h. l)) (high_symtab m k (omega arith))

pub high_slots : (m : MapRecord) (k : ℕ) → k < 6 → All (λ x. k < rank x) (from_slots m)
high_slots m k l = All-append (λ x. k < rank x) (map Slot m.slots) (from_symbols m) (All-map (λ x. k < rank x) Slot m.slots (λ i d h. l)) (high_symbols m k (omega arith))

pub high_got : (m : MapRecord) (k : ℕ) → k < 5 → All (λ x. k < rank x) (from_got m)
high_got m k l = All-append (λ x. k < rank x) (map Got (option_to_list m.got)) (from_slots m) (All-map (λ x. k < rank x) Got (option_to_list m.got) (λ i d h. l)) (high_slots m k (omega arith))

pub high_commons : (m : MapRecord) (k : ℕ) → k < 4 → All (λ x. k < rank x) (from_commons m)
high_commons m k l = All-append (λ x. k < rank x) (map Common m.commons) (from_got m) (All-map (λ x. k < rank x) Common m.commons (λ i d h. l)) (high_got m k (omega arith))

pub high_places : (m : MapRecord) (k : ℕ) → k < 3 → All (λ x. k < rank x) (from_places m)
high_places m k l = All-append (λ x. k < rank x) (map Place m.places) (from_commons m) (All-map (λ x. k < rank x) Place m.places (λ i d h. l)) (high_commons m k (omega arith))

pub high_drops : (m : MapRecord) (k : ℕ) → k < 2 → All (λ x. k < rank x) (from_drops m)
high_drops m k l = All-append (λ x. k < rank x) (map Drop m.drops) (from_places m) (All-map (λ x. k < rank x) Drop m.drops (λ i d h. l)) (high_places m k (omega arith))

-- a list of lines is empty where its parts are
parts_none : {X : Type 0} (kind : X → Line) (xs : List X) (ls : List Line) → map kind xs ++ ls ≡ [] → (length xs ≡ 0) × (ls ≡ [])
parts_none kind [] ls e = (refl, e)
parts_none kind (x ∷ xs) ls e = absurd (cons_not_nil (kind x) (map kind xs ++ ls) e) where
  cons_not_nil : (l : Line) (us : List Line) → l ∷ us ≡ [] → ⊥
  cons_not_nil l us e = cc

option_none : {X : Type 0} (o : Option X) → length (option_to_list o) ≡ 0 → o ≡ None
option_none None h = refl
option_none (Some x) h = absurd (omega arith)

ends_symtab : (m : MapRecord) → from_symtab m ≡ [] → EndsBeforeSymtab m
ends_symtab m e = option_none m.symtab (parts_none Symtab (option_to_list m.symtab) [] (append-nil (from_symtab m) ∙ e)).0

ends_symbols : (m : MapRecord) → from_symbols m ≡ [] → EndsBeforeSymbols m
ends_symbols m e = let p = parts_none Symbol m.symbols (from_symtab m) e in (p.0, ends_symtab m p.1)

ends_slots : (m : MapRecord) → from_slots m ≡ [] → EndsBeforeSlots m
ends_slots m e = let p = parts_none Slot m.slots (from_symbols m) e in (p.0, ends_symbols m p.1)

ends_got : (m : MapRecord) → from_got m ≡ [] → EndsBeforeGot m
ends_got m e = let p = parts_none Got (option_to_list m.got) (from_slots m) e in (option_none m.got p.0, ends_slots m p.1)

ends_commons : (m : MapRecord) → from_commons m ≡ [] → EndsBeforeCommons m
ends_commons m e = let p = parts_none Common m.commons (from_got m) e in (p.0, ends_got m p.1)

ends_places : (m : MapRecord) → from_places m ≡ [] → EndsBeforePlaces m
ends_places m e = let p = parts_none Place m.places (from_commons m) e in (p.0, ends_commons m p.1)

ends_drops : (m : MapRecord) → from_drops m ≡ [] → EndsBeforeDrops m
ends_drops m e = let p = parts_none Drop m.drops (from_places m) e in (p.0, ends_places m p.1)

-- an object follows all objects
next_object : (v : ℕ) (os : List ObjectRow) → AreNumbered os → (o : ObjectRow) → Follows v (last (Version v) (map Object os)) (Object o) → o.object ≡ length os
next_object v [] numbered o (inl h) = h.1
next_object v [] numbered o (inr h) = absurd h
next_object v (x ∷ xs) numbered o f =
    let r = follows_same v Object (λ (p q : ObjectRow). q.object ≡ p.object + 1) (λ x y. refl) (λ x y h. h) (last_of x xs) o (subst (λ (w : Line). Follows v w (Object o)) (last-map Object x xs) f) in
    let n = numbered (length xs) x (omega arith) in
    let at = ap (λ (w : ObjectRow). w.object) (get_or_last x xs x) in
    omega arith

-- whatever follows the last line of a map so far may stand next
module _ (m : MapRecord) (l : Line) (f : Follows m.version (last (Version m.version) (body m)) l) where
  at_drops : Behind m.version (from_drops m) l
  unfolding body
  at_drops = past (map Object m.objects) (from_drops m) l (record { front = Version m.version; follows = f })

  at_places : Behind m.version (from_places m) l
  at_places = past (map Drop m.drops) (from_places m) l at_drops

  at_commons : Behind m.version (from_commons m) l
  at_commons = past (map Place m.places) (from_commons m) l at_places

  at_got : Behind m.version (from_got m) l
  at_got = past (map Common m.commons) (from_got m) l at_commons

  at_slots : Behind m.version (from_slots m) l
  at_slots = past (map Got (option_to_list m.got)) (from_slots m) l at_got

  at_symbols : Behind m.version (from_symbols m) l
  at_symbols = past (map Slot m.slots) (from_symbols m) l at_slots

  at_symtab : Behind m.version (from_symtab m) l
  at_symtab = past (map Symbol m.symbols) (from_symtab m) l at_symbols

-- a kind of which there is at most one line
module _ {X : Type 0} (kind : X → Line) (same : (x y : X) → rank (kind x) ≡ rank (kind y)) (alone : (x y : X) → Next (kind x) (kind y) → ⊥) where
  twice : (v : ℕ) (x y : X) → Follows v (kind x) (kind y) → ⊥
  twice v x y (inl h) = omega (arith, h.0, same x y)
  twice v x y (inr h) = alone x y h

  no_second : (v : ℕ) (o : Option X) (y : X) → Behind v (map kind (option_to_list o)) (kind y) → o ≡ None
  no_second v None y b = refl
  no_second v (Some x) y b = absurd (twice v x y b.follows)

never_version : (p : Line) (n : ℕ) → Next p (Version n) → ⊥
never_version (Object o) n h = h
never_version p n h = h

-- the line of a symbol table comes in version 2
of_version : (v : ℕ) (p : Line) (t : SymtabLine) → Follows v p (Symtab t) → v ≡ 2
of_version v p t (inl h) = h.1
of_version v (Object o) t (inr h) = absurd h
of_version v p t (inr h) = absurd h

pub stands : (m : MapRecord) → AreNumbered m.objects → (l : Line) → Follows m.version (last (Version m.version) (body m)) l → MayStand m l ⊎ (l ≡ End)
unfolding body
stands m numbered (Version n) (inl h) = absurd (omega (arith, h.0))
stands m numbered (Version n) (inr h) = absurd (never_version (last (Version m.version) (body m)) n h)
stands m numbered (Object o) f =
    let e = none_later 1 (from_drops m) (Object o) (omega arith) (high_drops m 1 (omega arith)) (at_drops m (Object o) f) in
    let own = subst (λ (w : List Line). Follows m.version (last (Version m.version) w) (Object o)) (ap (λ w. map Object m.objects ++ w) e ∙ append-nil (map Object m.objects)) f in
    inl (ends_drops m e, next_object m.version m.objects numbered o own)
stands m numbered (Drop d) f =
    inl (last_above m.version Drop DropBefore (λ x y. refl) (λ x y h. h) 2 m.drops (from_places m) d (omega arith) (high_places m 2 (omega arith)) (ends_places m) (at_drops m (Drop d) f))
stands m numbered (Place p) f =
    inl (last_above m.version Place PlaceBefore (λ x y. refl) (λ x y h. h) 3 m.places (from_commons m) p (omega arith) (high_commons m 3 (omega arith)) (ends_commons m) (at_places m (Place p) f))
stands m numbered (Common c) f =
    inl (last_above m.version Common CommonBefore (λ x y. refl) (λ x y h. h) 4 m.commons (from_got m) c (omega arith) (high_got m 4 (omega arith)) (ends_got m) (at_commons m (Common c) f))
stands m numbered (Got g) f =
    let e = none_later 5 (from_slots m) (Got g) (omega arith) (high_slots m 5 (omega arith)) (at_slots m (Got g) f) in
    inl (no_second Got (λ x y. refl) (λ x y h. h) m.version m.got g (behind_none (map Got (option_to_list m.got)) (from_slots m) (Got g) e (at_got m (Got g) f)), ends_slots m e)
stands m numbered (Slot s) f =
    inl (last_above m.version Slot SlotBefore (λ x y. refl) (λ x y h. h) 6 m.slots (from_symbols m) s (omega arith) (high_symbols m 6 (omega arith)) (ends_symbols m) (at_slots m (Slot s) f))
stands m numbered (Symbol s) f =
    inl (last_above m.version Symbol SymbolBefore (λ x y. refl) (λ x y h. h) 7 m.symbols (from_symtab m) s (omega arith) (high_symtab m 7 (omega arith)) (ends_symtab m) (at_symbols m (Symbol s) f))
stands m numbered (Symtab t) f =
    inl (no_second Symtab (λ x y. refl) (λ x y h. h) m.version m.symtab t (at_symtab m (Symtab t) f), of_version m.version (last (Version m.version) (body m)) t f)
stands m numbered End f = inr refl

-- the map with one more line
kept : (ls more : List Line) (l : Line) (us : List Line) → more ≡ ls ++ l ∷ [] → us ++ more ≡ (us ++ ls) ++ l ∷ []
kept ls more l us e = ap (λ w. us ++ w) e ∙ sym (append_assoc us ls (l ∷ []))

module _ {X : Type 0} (kind : X → Line) where
  -- a line at the end of its list, where no later list has any
  one_more : (xs : List X) (x : X) (later : List Line) → later ≡ [] → map kind (xs ++ x ∷ []) ++ later ≡ (map kind xs ++ later) ++ kind x ∷ []
  one_more xs x later e = rw (e, append-nil (map kind (xs ++ x ∷ [])), append-nil (map kind xs)) (map_push kind xs x)

none_symtab : (m : MapRecord) → EndsBeforeSymtab m → from_symtab m ≡ []
none_symtab m e = ap (λ w. map Symtab (option_to_list w)) e

none_symbols : (m : MapRecord) → EndsBeforeSymbols m → from_symbols m ≡ []
none_symbols m e = ap (λ w. map Symbol w ++ from_symtab m) (nil_from_length m.symbols e.0) ∙ none_symtab m e.1

none_slots : (m : MapRecord) → EndsBeforeSlots m → from_slots m ≡ []
none_slots m e = ap (λ w. map Slot w ++ from_symbols m) (nil_from_length m.slots e.0) ∙ none_symbols m e.1

none_got : (m : MapRecord) → EndsBeforeGot m → from_got m ≡ []
none_got m e = ap (λ w. map Got (option_to_list w) ++ from_slots m) e.0 ∙ none_slots m e.1

none_commons : (m : MapRecord) → EndsBeforeCommons m → from_commons m ≡ []
none_commons m e = ap (λ w. map Common w ++ from_got m) (nil_from_length m.commons e.0) ∙ none_got m e.1

none_places : (m : MapRecord) → EndsBeforePlaces m → from_places m ≡ []
none_places m e = ap (λ w. map Place w ++ from_commons m) (nil_from_length m.places e.0) ∙ none_commons m e.1

none_drops : (m : MapRecord) → EndsBeforeDrops m → from_drops m ≡ []
none_drops m e = ap (λ w. map Drop w ++ from_places m) (nil_from_length m.drops e.0) ∙ none_places m e.1

got_more : (m : MapRecord) (g : GotLine) → EndsBeforeGot m → Got g ∷ from_slots m ≡ from_got m ++ Got g ∷ []
got_more m g e = rw (none_got m e, none_slots m e.1) refl

symtab_more : (m : MapRecord) (t : SymtabLine) → EndsBeforeSymtab m → Symtab t ∷ [] ≡ from_symtab m ++ Symtab t ∷ []
symtab_more m t e = rw (none_symtab m e) refl

pub body-add : (m : MapRecord) (l : Line) → MayStand m l → body (add m l) ≡ body m ++ l ∷ []
unfolding body
body-add m (Version n) s = absurd s
body-add m (Object o) s = one_more Object m.objects o (from_drops m) (none_drops m s.0)
body-add m (Drop d) s =
    kept _ _ (Drop d) (map Object m.objects) (one_more Drop m.drops d (from_places m) (none_places m s.0))
body-add m (Place p) s =
    kept _ _ (Place p) (map Object m.objects) (kept _ _ (Place p) (map Drop m.drops) (one_more Place m.places p (from_commons m) (none_commons m s.0)))
body-add m (Common c) s =
    kept _ _ (Common c) (map Object m.objects) (kept _ _ (Common c) (map Drop m.drops) (kept _ _ (Common c) (map Place m.places) (one_more Common m.commons c (from_got m) (none_got m s.0))))
body-add m (Got g) s =
    kept _ _ (Got g) (map Object m.objects) (kept _ _ (Got g) (map Drop m.drops) (kept _ _ (Got g) (map Place m.places) (kept _ _ (Got g) (map Common m.commons) (got_more m g s))))
body-add m (Slot x) s =
    kept _ _ (Slot x) (map Object m.objects) (kept _ _ (Slot x) (map Drop m.drops) (kept _ _ (Slot x) (map Place m.places) (kept _ _ (Slot x) (map Common m.commons) (kept _ _ (Slot x) (map Got (option_to_list m.got)) (one_more Slot m.slots x (from_symbols m) (none_symbols m s.0))))))
body-add m (Symbol x) s =
    kept _ _ (Symbol x) (map Object m.objects) (kept _ _ (Symbol x) (map Drop m.drops) (kept _ _ (Symbol x) (map Place m.places) (kept _ _ (Symbol x) (map Common m.commons) (kept _ _ (Symbol x) (map Got (option_to_list m.got)) (kept _ _ (Symbol x) (map Slot m.slots) (one_more Symbol m.symbols x (from_symtab m) (none_symtab m s.0)))))))
body-add m (Symtab x) s =
    kept _ _ (Symtab x) (map Object m.objects) (kept _ _ (Symtab x) (map Drop m.drops) (kept _ _ (Symtab x) (map Place m.places) (kept _ _ (Symtab x) (map Common m.commons) (kept _ _ (Symtab x) (map Got (option_to_list m.got)) (kept _ _ (Symtab x) (map Slot m.slots) (kept _ _ (Symtab x) (map Symbol m.symbols) (symtab_more m x s.0)))))))
body-add m End s = absurd s

pub version-add : (m : MapRecord) (l : Line) → (add m l).version ≡ m.version
version-add m (Version n) = refl
version-add m (Object o) = refl
version-add m (Drop d) = refl
version-add m (Place p) = refl
version-add m (Common c) = refl
version-add m (Got g) = refl
version-add m (Slot s) = refl
version-add m (Symbol s) = refl
version-add m (Symtab t) = refl
version-add m End = refl

-- it is a map again
module _ {X : Type 0} (R : X → X → Type 0) where
  above_at : (xs : List X) (x : X) (k : ℕ) (d : X) → k + 1 ≡ length xs → IsAboveLast R xs x → R (get_or xs k d) x
  above_at xs x k d e h =
      let short : length xs - 1 ≡ k = omega arith in
      MatchOption-at_some ⊤ (λ p. R p x) (get_or xs k d) (ap (slice_get xs) short ∙ slice_get-get_or xs k d (omega arith)) h

  ascends_push : (xs : List X) (x : X) → Ascends R xs → IsAboveLast R xs x → Ascends R (xs ++ x ∷ [])
  ascends_push xs x h above k d l = by (cases_lt (k + 1) (length xs)) where
    by : (k + 1 < length xs) ⊎ (length xs ≤ k + 1) → R (get_or (xs ++ x ∷ []) k d) (get_or (xs ++ x ∷ []) (k + 1) d)
    by (inl in_front) =
        rw (get_or_append_left xs (x ∷ []) d k (omega arith), get_or_append_left xs (x ∷ []) d (k + 1) in_front) (h k d in_front)
    by (inr behind) =
        let e : k + 1 ≡ length xs = omega (arith, length_push xs x) in
        rw (get_or_append_left xs (x ∷ []) d k (omega arith), get_or_push xs x d (k + 1) (sym e)) (above_at xs x k d e above)

numbered_push : (os : List ObjectRow) (o : ObjectRow) → AreNumbered os → o.object ≡ length os → AreNumbered (os ++ o ∷ [])
numbered_push os o h e k d l = by (cases_lt k (length os)) where
  by : (k < length os) ⊎ (length os ≤ k) → (get_or (os ++ o ∷ []) k d).object ≡ k
  by (inl in_front) = ap (λ (w : ObjectRow). w.object) (get_or_append_left os (o ∷ []) d k in_front) ∙ h k d in_front
  by (inr behind) =
      let at : length os ≡ k = omega (arith, length_push os o) in
      ap (λ (w : ObjectRow). w.object) (get_or_push os o d k at) ∙ e ∙ at

pub ordered-add : (m : MapRecord) (l : Line) → MayStand m l → IsOrdered m → IsOrdered (add m l)
ordered-add m (Version n) s o = o
ordered-add m (Object x) s o = record { version = o.version; objects = numbered_push m.objects x o.objects s.1; drops = o.drops; places = o.places; commons = o.commons; slots = o.slots; symbols = o.symbols }
ordered-add m (Drop x) s o = record { version = o.version; objects = o.objects; drops = ascends_push DropBefore m.drops x o.drops s.1; places = o.places; commons = o.commons; slots = o.slots; symbols = o.symbols }
ordered-add m (Place x) s o = record { version = o.version; objects = o.objects; drops = o.drops; places = ascends_push PlaceBefore m.places x o.places s.1; commons = o.commons; slots = o.slots; symbols = o.symbols }
ordered-add m (Common x) s o = record { version = o.version; objects = o.objects; drops = o.drops; places = o.places; commons = ascends_push CommonBefore m.commons x o.commons s.1; slots = o.slots; symbols = o.symbols }
ordered-add m (Got g) s o = record { version = o.version; objects = o.objects; drops = o.drops; places = o.places; commons = o.commons; slots = o.slots; symbols = o.symbols }
ordered-add m (Slot x) s o = record { version = o.version; objects = o.objects; drops = o.drops; places = o.places; commons = o.commons; slots = ascends_push SlotBefore m.slots x o.slots s.1; symbols = o.symbols }
ordered-add m (Symbol x) s o = record { version = o.version; objects = o.objects; drops = o.drops; places = o.places; commons = o.commons; slots = o.slots; symbols = ascends_push SymbolBefore m.symbols x o.symbols s.1 }
ordered-add m (Symtab x) s o = record { version = inr s.1; objects = o.objects; drops = o.drops; places = o.places; commons = o.commons; slots = o.slots; symbols = o.symbols }
ordered-add m End s o = o

pub fits-add : (m : MapRecord) (l : Line) → FitsLine l → Fits m → Fits (add m l)
fits-add m (Version n) g f = f
fits-add m (Object x) g f = record { objects = All-push FitsObject m.objects x f.objects g; drops = f.drops; places = f.places; commons = f.commons; got = f.got; slots = f.slots; symbols = f.symbols; symtab = f.symtab }
fits-add m (Drop x) g f = record { objects = f.objects; drops = All-push FitsDrop m.drops x f.drops g; places = f.places; commons = f.commons; got = f.got; slots = f.slots; symbols = f.symbols; symtab = f.symtab }
fits-add m (Place x) g f = record { objects = f.objects; drops = f.drops; places = All-push FitsPlace m.places x f.places g; commons = f.commons; got = f.got; slots = f.slots; symbols = f.symbols; symtab = f.symtab }
fits-add m (Common x) g f = record { objects = f.objects; drops = f.drops; places = f.places; commons = All-push FitsCommon m.commons x f.commons g; got = f.got; slots = f.slots; symbols = f.symbols; symtab = f.symtab }
fits-add m (Got x) g f = record { objects = f.objects; drops = f.drops; places = f.places; commons = f.commons; got = All-cons FitsGot x [] g (All-nil FitsGot); slots = f.slots; symbols = f.symbols; symtab = f.symtab }
fits-add m (Slot x) g f = record { objects = f.objects; drops = f.drops; places = f.places; commons = f.commons; got = f.got; slots = All-push FitsSlot m.slots x f.slots g; symbols = f.symbols; symtab = f.symtab }
fits-add m (Symbol x) g f = record { objects = f.objects; drops = f.drops; places = f.places; commons = f.commons; got = f.got; slots = f.slots; symbols = All-push FitsSymbol m.symbols x f.symbols g; symtab = f.symtab }
fits-add m (Symtab x) g f = record { objects = f.objects; drops = f.drops; places = f.places; commons = f.commons; got = f.got; slots = f.slots; symbols = f.symbols; symtab = All-cons FitsSymtab x [] g (All-nil FitsSymtab) }
fits-add m End g f = f

pub is_map-add : (m : MapRecord) (l : Line) → MayStand m l → FitsLine l → IsMap m → IsMap (add m l)
is_map-add m l s g h = record { fits = fits-add m l g h.fits; ordered = ordered-add m l s h.ordered }
