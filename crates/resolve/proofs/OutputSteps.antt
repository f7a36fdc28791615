-- The output sections of pieces and their numbers, with one more piece.
use Rattle.std.proofs.Common.{◌≡◌, ℕ, zero, suc, Bool, true, false, cond, ◌||◌, List, [], ◌∷◌, ◌++◌, refl, sym, ◌∙◌, ap}
use Rattle.std.specs.Prelude.{Option, Some, map, option_map}
use Rattle.std.specs.List.{list_any, slice_get}
use Rattle.std.proofs.lemmas.List.{append-nil, map-append}
use Rattle.elf_model.specs.Own.OwnLayout.{leaders}
use Rattle.elf_model.specs.Link.Pieces as pieces
use Rattle.elf_model.specs.Link.Pieces.{same_output}
use Rattle.elf_model.proofs.SameOutput.{alike, both_ways_equal, same_from_alike}
use Rattle.resolve.specs.OutputSections.{AreOutputsOf, Output, output_at, output_of, output_view}
use Rattle.resolve.specs.declared.output_sections.OutputSection.{OutputSection}
use Rattle.resolve.proofs.Leaders.{has_leader, leaders_lead, leaders_push}

-- pieces have one output section where what they have in common is the same
pub same_output_of : (p q : pieces.Piece) → output_of p ≡ output_of q → same_output p q ≡ true
same_output_of p q e = same_from_alike p q (record {
  name = ap (λ (o : Output). o.name) e;
  writable = ap (λ (o : Output). o.writable) e;
  executable = ap (λ (o : Output). o.executable) e;
  thread_local = ap (λ (o : Output). o.thread_local) e;
  nobits = ap (λ (o : Output). o.nobits) e;
})

pub output_of_same : (p q : pieces.Piece) → same_output p q ≡ true → output_of p ≡ output_of q
output_of_same p q e =
    let a = alike p q e in
    λ i. record {
      name = a.name i;
      writable = a.writable i;
      executable = a.executable i;
      thread_local = a.thread_local i;
      nobits = a.nobits i;
    }

-- a number of a list has an element of it
slice_get_map : {X Y Z : Type 0} (f : X → Z) (g : Y → Z) (xs : List X) (ys : List Y) (i : ℕ) (x : X) → map f xs ≡ map g ys → slice_get xs i ≡ Some x → (y : Y) × (slice_get ys i ≡ Some y) × (f x ≡ g y)
slice_get_map f g [] ys i x same there = absurd (cc)
slice_get_map f g (x0 ∷ xs) [] i x same there = absurd (cc)
slice_get_map {X} {Y} {Z} f g (x0 ∷ xs) (y0 ∷ ys) zero x same there = (y0, refl, ap f (sym (first there)) ∙ head same)
  where
    first : Some x0 ≡ Some x → x0 ≡ x
    first e = cc

    head : f x0 ∷ map f xs ≡ g y0 ∷ map g ys → f x0 ≡ g y0
    head e = cc
slice_get_map {X} {Y} {Z} f g (x0 ∷ xs) (y0 ∷ ys) (suc i) x same there = slice_get_map f g xs ys i x (tail same) there
  where
    tail : f x0 ∷ map f xs ≡ g y0 ∷ map g ys → map f xs ≡ map g ys
    tail e = cc

-- keys compare as the pieces that they are of
abbrev pub Compares : (OutputSection → OutputSection → Bool) → Type 0
Compares eq = (a b : OutputSection) → ((eq a b ≡ true) → output_view a ≡ output_view b) × (output_view a ≡ output_view b → eq a b ≡ true)

compared : (eq : OutputSection → OutputSection → Bool) → Compares eq → (v k : OutputSection) (q l : pieces.Piece) → output_view v ≡ output_of q → output_view k ≡ output_of l → eq v k ≡ same_output l q
compared eq decides v k q l of_q of_l =
    both_ways_equal (eq v k) (same_output l q)
    (λ e. same_output_of l q (sym of_l ∙ (sym ((decides v k).0 e) ∙ of_q)))
    (λ e. (decides v k).1 (of_q ∙ (sym (output_of_same l q e) ∙ sym of_l)))

-- a key is among the keys where a leader is of its output section
pub key_there :
    (eq : OutputSection → OutputSection → Bool) → Compares eq → (v : OutputSection) (q : pieces.Piece) → output_view v ≡ output_of q →
    (keys : List OutputSection) (ls : List pieces.Piece) → map output_view keys ≡ map output_of ls → list_any (eq v) keys ≡ has_leader ls q
key_there eq decides v q of_q [] [] same = refl
key_there eq decides v q of_q [] (l ∷ ls) same = absurd (cc)
key_there eq decides v q of_q (k ∷ keys) [] same = absurd (cc)
key_there eq decides v q of_q (k ∷ keys) (l ∷ ls) same =
    ap (λ (b : Bool). b || list_any (eq v) keys) (compared eq decides v k q l of_q (head same))
    ∙ ap (λ (b : Bool). same_output l q || b) (key_there eq decides v q of_q keys ls (tail same))
  where
    head : output_view k ∷ map output_view keys ≡ output_of l ∷ map output_of ls → output_view k ≡ output_of l
    head e = cc

    tail : output_view k ∷ map output_view keys ≡ output_of l ∷ map output_of ls → map output_view keys ≡ map output_of ls
    tail e = cc

-- the keys and the groups with a new one where it is new
pub keys_step :
    (there : Bool) (keys new : List OutputSection) (v : OutputSection) (done : List pieces.Piece) (q : pieces.Piece) →
    there ≡ has_leader done q → output_view v ≡ output_of q → new ≡ cond there keys (keys ++ v ∷ []) →
    map output_view keys ≡ map output_of (leaders done) → map output_view new ≡ map output_of (leaders (done ++ q ∷ []))
keys_step there keys new v done q is of_q grown same =
    ap (map output_view) grown ∙ (by there is ∙ sym (ap (map output_of) (leaders_push done q)))
  where
    by : (b : Bool) → b ≡ has_leader done q → map output_view (cond b keys (keys ++ v ∷ [])) ≡ map output_of (leaders done ++ cond (has_leader done q) [] (q ∷ []))
    by true e = rw (← e) (same ∙ ap (map output_of) (sym (append-nil (leaders done))))
    by false e =
        rw (← e)
        (map-append output_view keys (v ∷ [])
        ∙ (ap (λ (os : List Output). os ++ output_view v ∷ []) same
        ∙ (ap (λ (o : Output). map output_of (leaders done) ++ o ∷ []) of_q ∙ sym (map-append output_of (leaders done) (q ∷ [])))))

-- a number of output sections has the same one where there are more
stays : (keys more : List OutputSection) (n : ℕ) (o : Output) → output_at keys n ≡ Some o → output_at (keys ++ more) n ≡ Some o
stays [] more n o is = absurd (cc)
stays (k ∷ keys) more zero o is = is
stays (k ∷ keys) more (suc n) o is = stays keys more n o is

numbers_stay :
    (keys more : List OutputSection) (ns : List ℕ) (ps : List pieces.Piece) → map (output_at keys) ns ≡ map (λ p. Some (output_of p)) ps →
    map (output_at (keys ++ more)) ns ≡ map (λ p. Some (output_of p)) ps
numbers_stay keys more [] [] are = refl
numbers_stay keys more [] (p ∷ ps) are = absurd (cc)
numbers_stay keys more (n ∷ ns) [] are = absurd (cc)
numbers_stay keys more (n ∷ ns) (p ∷ ps) are = joined (stays keys more n (output_of p) (first are)) (numbers_stay keys more ns ps (rest are))
  where
    first : output_at keys n ∷ map (output_at keys) ns ≡ Some (output_of p) ∷ map (λ q. Some (output_of q)) ps → output_at keys n ≡ Some (output_of p)
    first e = cc

    rest : output_at keys n ∷ map (output_at keys) ns ≡ Some (output_of p) ∷ map (λ q. Some (output_of q)) ps → map (output_at keys) ns ≡ map (λ q. Some (output_of q)) ps
    rest e = cc

    joined : {X : Type 0} {x y : X} {xs ys : List X} → x ≡ y → xs ≡ ys → x ∷ xs ≡ y ∷ ys
    joined e f = cc

-- where the keys are the old ones, or the old ones and a new one
kept_numbers :
    (there : Bool) (keys new : List OutputSection) (v : OutputSection) (ns : List ℕ) (ps : List pieces.Piece) → new ≡ cond there keys (keys ++ v ∷ []) →
    map (output_at keys) ns ≡ map (λ p. Some (output_of p)) ps → map (output_at new) ns ≡ map (λ p. Some (output_of p)) ps
kept_numbers true keys new v ns ps grown are = ap (λ (ks : List OutputSection). map (output_at ks) ns) grown ∙ are
kept_numbers false keys new v ns ps grown are =
    ap (λ (ks : List OutputSection). map (output_at ks) ns) grown ∙ numbers_stay keys (v ∷ []) ns ps are

-- one more piece, whose output section is found among the keys, or put behind them
pub outputs_step :
    (eq : OutputSection → OutputSection → Bool) → Compares eq → (keys new : List OutputSection) (ns : List ℕ) (v k : OutputSection) (i : ℕ)
    (done : List pieces.Piece) (q : pieces.Piece) → output_view v ≡ output_of q → new ≡ cond (list_any (eq v) keys) keys (keys ++ v ∷ []) →
    slice_get new i ≡ Some k → eq v k ≡ true → AreOutputsOf done keys ns → AreOutputsOf (done ++ q ∷ []) new (ns ++ i ∷ [])
outputs_step eq decides keys new ns v k i done q of_q grown there is are = record {
  sections_are =
      keys_step (list_any (eq v) keys) keys new v done q
      (key_there eq decides v q of_q keys (leaders done) are.sections_are ∙ leaders_lead done q) of_q grown are.sections_are;
  numbers_are =
      map-append (output_at new) ns (i ∷ [])
      ∙ ap (λ (os : List (Option Output)). os ++ output_at new i ∷ []) (kept_numbers (list_any (eq v) keys) keys new v ns done grown are.numbers_are)
      ∙ ap (λ (o : Option Output). map (λ p. Some (output_of p)) done ++ o ∷ [])
      (ap (option_map output_view) there ∙ ap (λ (o : Output). Some o) (sym ((decides v k).0 is) ∙ of_q))
      ∙ sym (map-append (λ (p : pieces.Piece). Some (output_of p)) done (q ∷ []));
}
