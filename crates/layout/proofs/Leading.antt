-- The pieces that leaders of output sections lead, as pieces come one by one.
use Rattle.std.proofs.Common.{◌≡◌, ℕ, zero, suc, Bool, true, false, cond, List, [], ◌∷◌, ◌++◌, refl, sym, ◌∙◌, ap}
use Rattle.std.specs.Prelude.{All, AllPairs, Some, map}
use Rattle.std.specs.List.{slice_get}
use Rattle.std.proofs.lemmas.Bool.{false≢true}
use Rattle.std.proofs.lemmas.List.Elements.{All-head, All-tail, All-weaker, filter-append}
use Rattle.std.proofs.lemmas.Option.{same_Some}
use Rattle.elf_model.specs.Link.Pieces.{Piece, same_output}
use Rattle.elf_model.proofs.Grouped.{AreOther}
use Rattle.elf_model.proofs.Pairs.{AllPairs-head, AllPairs-tail}
use Rattle.elf_model.proofs.SameOutput.{same_output-sym, same_output-trans}
use Rattle.layout.specs.Groups.{group, put_at}

-- the pieces of a leader's output section, with one more
group_push : (ps : List Piece) (q l : Piece) → group (ps ++ q ∷ []) l ≡ group ps l ++ cond (same_output l q) (q ∷ []) []
group_push ps q l = filter-append (same_output l) ps (q ∷ [])

-- no leader of another output section takes it
append_none : (g : List Piece) → g ++ [] ≡ g
append_none [] = refl
append_none (p ∷ g) = ap (λ (ps : List Piece). p ∷ ps) (append_none g)

not_taken : (ps : List Piece) (q m : Piece) → same_output m q ≡ false → group ps m ≡ group (ps ++ q ∷ []) m
not_taken ps q m e = sym (group_push ps q m ∙ (ap (λ (b : Bool). group ps m ++ cond b (q ∷ []) []) e ∙ append_none (group ps m)))

not_taken_by : (ps : List Piece) (q : Piece) (ms : List Piece) → All (λ m. same_output m q ≡ false) ms → map (group ps) ms ≡ map (group (ps ++ q ∷ [])) ms
not_taken_by ps q [] none = refl
not_taken_by ps q (m ∷ ms) none =
    let here = not_taken ps q m (All-head (λ (x : Piece). same_output x q ≡ false) m ms none) in
    let rest = not_taken_by ps q ms (All-tail (λ (x : Piece). same_output x q ≡ false) m ms none) in
    ap (λ (g : List Piece). g ∷ map (group ps) ms) here ∙ ap (λ (gs : List (List Piece)). group (ps ++ q ∷ []) m ∷ gs) rest

other_than : (m x q : Piece) → same_output m q ≡ true → same_output m x ≡ false → (b : Bool) → same_output x q ≡ b → b ≡ false
other_than m x q s e true t = absurd (false≢true (sym e ∙ same_output-trans m q x s (same_output-sym x q t)))
other_than m x q s e false t = refl

other_before : (m l q : Piece) → same_output l q ≡ true → same_output m l ≡ false → (b : Bool) → same_output m q ≡ b → b ≡ false
other_before m l q s e true t = absurd (false≢true (sym e ∙ same_output-trans m q l t (same_output-sym l q s)))
other_before m l q s e false t = refl

-- the leader of a piece's output section takes it, and no other one does
pub put_at_leader :
    (ps ls : List Piece) (i : ℕ) (l q : Piece) → slice_get ls i ≡ Some l → same_output l q ≡ true → AllPairs AreOther ls →
    put_at (map (group ps) ls) i q ≡ map (group (ps ++ q ∷ [])) ls
put_at_leader ps [] i l q there s other = absurd (cc)
put_at_leader ps (m ∷ ms) zero l q there s other =
    let t : same_output m q ≡ true = ap (λ (x : Piece). same_output x q) (same_Some m l there) ∙ s in
    let here : group (ps ++ q ∷ []) m ≡ group ps m ++ q ∷ [] = group_push ps q m ∙ ap (λ (b : Bool). group ps m ++ cond b (q ∷ []) []) t in
    let none = All-weaker (AreOther m) (λ (x : Piece). same_output x q ≡ false) (λ x e. other_than m x q t e (same_output x q) refl) ms (AllPairs-head AreOther m ms other) in
    ap (λ (g : List Piece). g ∷ map (group ps) ms) (sym here)
    ∙ ap (λ (gs : List (List Piece)). group (ps ++ q ∷ []) m ∷ gs) (not_taken_by ps q ms none)
put_at_leader ps (m ∷ ms) (suc i) l q there s other =
    let e : same_output m l ≡ false = at ms i there (AllPairs-head AreOther m ms other) in
    ap (λ (g : List Piece). g ∷ put_at (map (group ps) ms) i q) (not_taken ps q m (other_before m l q s e (same_output m q) refl))
    ∙ ap (λ (gs : List (List Piece)). group (ps ++ q ∷ []) m ∷ gs) (put_at_leader ps ms i l q there s (AllPairs-tail AreOther m ms other))
  where
    at : (xs : List Piece) (j : ℕ) → slice_get xs j ≡ Some l → All (AreOther m) xs → same_output m l ≡ false
    at [] j found all = absurd (cc)
    at (x ∷ xs) zero found all = ap (same_output m) (sym (same_Some x l found)) ∙ All-head (AreOther m) x xs all
    at (x ∷ xs) (suc j) found all = at xs j found (All-tail (AreOther m) x xs all)
