-- The address of a section, and that of the GOT, is that of its place, in whichever order the places are listed.
use Rattle.std.proofs.Common.{arith, ◌++◌, ◌<◌, ◌≤◌, length, ◌≡◌, ℕ, ◌==◌, ◌&&◌, ◌⊎◌, inl, inr, Bool, true, false, cond, List, [], ◌∷◌, refl, sym, ◌∙◌, ap, subst}
use Rattle.std.specs.Prelude.{All, Contains, Option, Some, None, find, option_map, unwrap_or}
use Rattle.std.proofs.lemmas.Bool.{and_parts, eq-eqb, eqb-true, false≢true}
use Rattle.std.proofs.lemmas.List.Elements.{All-head, All-tail, All-weaker}
use Rattle.std.proofs.lemmas.Option.{none-some}
use Rattle.elf_model.specs.Link.Loading.{LoadedObject}
use Rattle.elf_model.specs.Own.OwnLayout.{got_line_of, got_number, got_piece, got_pieces, laid_out, own_address, own_got, own_in_load_order, own_laid_out, own_placed, own_places}
use Rattle.elf_model.specs.Link.Slots.{has_got}
use Rattle.elf_model.specs.declared.link_map.GotLine.{GotLine}
use Rattle.elf_model.specs.Link.Commons.{block_pieces, pieces}
use Rattle.elf_model.specs.Link.Pieces.{Piece, kept_sections}
use Rattle.elf_model.specs.Link.Placement.{Placed, is_of_section}
use Rattle.elf_model.proofs.Blocks.{block_pieces-object}
use Rattle.elf_model.proofs.Finding.{find-found, find-none}
use Rattle.elf_model.proofs.Found.{find-map}
use Rattle.elf_model.proofs.Listed.{All-from_contains, Contains-cons_cases, Contains-from_map, Contains-map, Contains-nil}
use Rattle.elf_model.proofs.OwnOrder.{from_own_order, own_order, to_own_order}
use Rattle.elf_model.proofs.PieceNumbers.{got_pieces-each, kept_below, pieces_low}
use Rattle.elf_model.proofs.Places.{at_own_address, own_placed_pieces}

-- where nothing is found, nothing passes
none_passes : {X : Type 0} (test : X → Bool) (xs : List X) (x : X) → find test xs ≡ None → Contains xs x → test x ≡ true → ⊥
none_passes test [] x e c t = Contains-nil x c
none_passes {X} test (y ∷ ys) x e c t = by (test y) refl e (Contains-cons_cases y ys x c) (none_passes test ys x)
  where
    by :
        (b : Bool) → test y ≡ b → cond b (Some y) (find test ys) ≡ None → (y ≡ x) ⊎ Contains ys x →
        (find test ys ≡ None → Contains ys x → test x ≡ true → ⊥) → ⊥
    by true s e c rest = none-some y (sym e)
    by false s e (inl same) rest = false≢true (sym s ∙ (ap test same ∙ t))
    by false s e (inr there) rest = rest e there t

abbrev of_section : ℕ → ℕ → Piece → Bool
of_section o s p = p.object == o && p.section == s

abbrev at_of : Option Placed → Option ℕ
at_of q = option_map (λ r. r.at) q

-- what is found in two lists, where nothing is in one of them
found_in_front : {X : Type 0} (test : X → Bool) (xs ys : List X) → All (λ y. test y ≡ false) ys → find test (xs ++ ys) ≡ find test xs
found_in_front test [] ys none = find-none test ys none
found_in_front {X} test (x ∷ xs) ys none = ap (λ (o : Option X). cond (test x) (Some x) o) (found_in_front test xs ys none)

found_behind : {X : Type 0} (test : X → Bool) (xs ys : List X) → All (λ x. test x ≡ false) xs → find test (xs ++ ys) ≡ find test ys
found_behind test [] ys none = refl
found_behind {X} test (x ∷ xs) ys none =
    ap (λ b. cond b (Some x) (find test (xs ++ ys))) (All-head (λ (y : X). test y ≡ false) x xs none)
    ∙ found_behind test xs ys (All-tail (λ (y : X). test y ≡ false) x xs none)

-- a piece of another object
of_other : (p : Piece) (o s : ℕ) → (p.object ≡ o → ⊥) → of_section o s p ≡ false
of_other p o s other = by (p.object == o) refl
  where
    by : (b : Bool) → (p.object == o) ≡ b → (b && p.section == s) ≡ false
    by true e = absurd (other (eqb-true p.object o e))
    by false e = refl

module _ (base : ℕ) (objects : List LoadedObject) (o s : ℕ) where
  placed : List Placed
  placed = own_placed base objects

  -- where no piece is of the section, no place is
  nothing : find (of_section o s) (laid_out objects) ≡ None → find (is_of_section o s) (own_placed base objects) ≡ None
  nothing e =
      find-none (is_of_section o s) (own_placed base objects)
      (All-from_contains (λ (q : Placed). is_of_section o s q ≡ false) (own_placed base objects)
      (λ q c. by q c (is_of_section o s q) refl))
    where
      by : (q : Placed) → Contains (own_placed base objects) q → (b : Bool) → is_of_section o s q ≡ b → b ≡ false
      by q c false t = refl
      by q c true t =
          let ordered : Contains (own_order objects) q.piece =
          subst (λ (ps : List Piece). Contains ps q.piece) (own_placed_pieces base objects) (Contains-map (λ (r : Placed). r.piece) (own_placed base objects) q c) in
          absurd (none_passes (of_section o s) (laid_out objects) q.piece e (from_own_order objects q.piece ordered) t)

  -- where a piece is, a place is, and the own address is that of it
  something : (p : Piece) → find (of_section o s) (laid_out objects) ≡ Some p → at_of (find (is_of_section o s) (own_placed base objects)) ≡ Some (own_address base objects p)
  something p e = by (find (is_of_section o s) (own_placed base objects)) refl
    where
      there : Contains (laid_out objects) p
      there = (find-found (of_section o s) (laid_out objects) p e).there

      both : (p.object ≡ o) × (p.section ≡ s)
      both =
          let parts = and_parts (p.object == o) (p.section == s) (find-found (of_section o s) (laid_out objects) p e).passes in
          (eqb-true p.object o parts.0, eqb-true p.section s parts.1)

      own : own_address base objects p ≡ unwrap_or (at_of (find (is_of_section o s) (own_placed base objects))) 0
      own =
          ap (λ (i : ℕ). unwrap_or (at_of (find (is_of_section i p.section) (own_placed base objects))) 0) both.0
          ∙ ap (λ (i : ℕ). unwrap_or (at_of (find (is_of_section o i) (own_placed base objects))) 0) both.1

      by : (f : Option Placed) → find (is_of_section o s) (own_placed base objects) ≡ f → at_of f ≡ Some (own_address base objects p)
      by (Some q) g = ap (λ (n : ℕ). Some n) (sym (own ∙ ap (λ (r : Option Placed). unwrap_or (at_of r) 0) g))
      by None g =
          let q = Contains-from_map (λ (r : Placed). r.piece) (own_placed base objects) p
          (subst (λ (ps : List Piece). Contains ps p) (sym (own_placed_pieces base objects)) (to_own_order objects p there)) in
          let passes : is_of_section o s q.of ≡ true =
          ap (of_section o s) q.is ∙ (find-found (of_section o s) (laid_out objects) p e).passes in
          absurd (none_passes (is_of_section o s) (own_placed base objects) q.of g q.there passes)

  pub address_either : at_of (find (is_of_section o s) (own_placed base objects)) ≡ at_of (find (is_of_section o s) (own_laid_out base objects))
  address_either = by (find (of_section o s) (laid_out objects)) refl
    where
      mapped : find (is_of_section o s) (own_laid_out base objects) ≡ option_map (at_own_address base objects) (find (of_section o s) (laid_out objects))
      mapped = find-map (is_of_section o s) (at_own_address base objects) (laid_out objects)

      by :
          (f : Option Piece) → find (of_section o s) (laid_out objects) ≡ f →
          at_of (find (is_of_section o s) (own_placed base objects)) ≡ at_of (find (is_of_section o s) (own_laid_out base objects))
      by (Some p) e = something p e ∙ sym (ap at_of (mapped ∙ ap (option_map (at_own_address base objects)) e))
      by None e = ap at_of (nothing e) ∙ sym (ap at_of (mapped ∙ ap (option_map (at_own_address base objects)) e))

  -- the objects and the blocks are found without the GOT, and nothing behind them
  in_load_order : find (is_of_section o s) (own_in_load_order base objects) ≡ option_map (at_own_address base objects) (find (of_section o s) (pieces objects))
  in_load_order = find-map (is_of_section o s) (at_own_address base objects) (pieces objects)

  pub object_address :
      o ≤ length objects →
      at_of (find (is_of_section o s) (own_laid_out base objects)) ≡ at_of (find (is_of_section o s) (own_in_load_order base objects))
  object_address low =
      let none = got_pieces-each objects (λ p. of_section o s p ≡ false) (of_other (got_piece objects) o s (λ e. omega (arith, e, low))) in
      ap at_of
      (find-map (is_of_section o s) (at_own_address base objects) (laid_out objects)
      ∙ (ap (option_map (at_own_address base objects)) (found_in_front (of_section o s) (pieces objects) (got_pieces objects) none) ∙ sym in_load_order))

  none_behind : length objects < o → All (λ p. of_section o s p ≡ false) (pieces objects)
  none_behind high =
      All-weaker (λ p. p.object ≤ length objects) (λ p. of_section o s p ≡ false) (λ p low. of_other p o s (λ e. omega (arith, e, low, high)))
      (pieces objects) (pieces_low objects)

  pub no_address : length objects < o → None ≡ at_of (find (is_of_section o s) (own_in_load_order base objects))
  no_address high =
      sym
      (ap at_of
      (in_load_order ∙ ap (option_map (at_own_address base objects)) (find-none (of_section o s) (pieces objects) (none_behind high))))

  -- a section of an object is found without the blocks, and none behind the last object
  kept_places :
      find (is_of_section o s) (own_places base objects (kept_sections objects))
      ≡ option_map (at_own_address base objects) (find (of_section o s) (kept_sections objects))
  kept_places = find-map (is_of_section o s) (at_own_address base objects) (kept_sections objects)

  pub kept_address :
      o < length objects →
      at_of (find (is_of_section o s) (own_in_load_order base objects))
      ≡ at_of (find (is_of_section o s) (own_places base objects (kept_sections objects)))
  kept_address low =
      let none =
      All-weaker (λ p. p.object ≡ length objects) (λ p. of_section o s p ≡ false) (λ p e. of_other p o s (λ f. omega (arith, e, f, low)))
      (block_pieces objects) (block_pieces-object objects) in
      ap at_of
      (in_load_order
      ∙ (ap (option_map (at_own_address base objects)) (found_in_front (of_section o s) (kept_sections objects) (block_pieces objects) none) ∙ sym kept_places))

  pub no_section : length objects ≤ o → None ≡ at_of (find (is_of_section o s) (own_places base objects (kept_sections objects)))
  no_section high =
      let none =
      All-weaker (λ p. p.object < length objects) (λ p. of_section o s p ≡ false) (λ p low. of_other p o s (λ e. omega (arith, e, low, high)))
      (kept_sections objects) (kept_below objects) in
      sym (ap at_of (kept_places ∙ ap (option_map (at_own_address base objects)) (find-none (of_section o s) (kept_sections objects) none)))

-- the GOT is found by its number
pub got_address :
    (base : ℕ) (objects : List LoadedObject) →
    at_of (find (is_of_section (got_number objects) 0) (own_laid_out base objects)) ≡ option_map (λ g. g.address) (own_got base objects)
got_address base objects =
    ap at_of
    (find-map (is_of_section (got_number objects) 0) (at_own_address base objects) (laid_out objects)
    ∙ ap (option_map (at_own_address base objects))
    (found_behind (of_section (got_number objects) 0) (pieces objects) (got_pieces objects) (none_behind base objects (got_number objects) 0 (omega arith))))
    ∙ by (has_got objects)
  where
    is : of_section (got_number objects) 0 (got_piece objects) ≡ true
    is = ap (λ b. b && true) (eq-eqb (got_number objects) (got_number objects) refl)

    by :
        (b : Bool) →
        at_of (option_map (at_own_address base objects) (find (of_section (got_number objects) 0) (cond b (got_piece objects ∷ []) [])))
        ≡ option_map (λ (g : GotLine). g.address) (cond b (Some (got_line_of base objects)) None)
    by true = ap (λ b. at_of (option_map (at_own_address base objects) (cond b (Some (got_piece objects)) None))) is
    by false = refl
