-- The things of the own image: the headers, the GOT where there is one, and the pieces.
use Rattle.std.proofs.Common.{◌≡◌, ◌⊎◌, inl, inr, ℕ, ◌≤◌, Bool, true, false, cond, List, [], ◌∷◌, ◌++◌, refl, sym, ◌∙◌, ap, subst, arith, length}
use Rattle.std.specs.Prelude.{All, AllPairs, Contains, Some, None, map}
use Rattle.std.proofs.lemmas.List.{map-append}
use Rattle.std.proofs.lemmas.List.Elements.{All-weaker, Contains-append_cases, Contains-append_left, Contains-append_right}
use Rattle.elf_model.specs.Link.Commons.{pieces}
use Rattle.elf_model.specs.Link.Loading.{LoadedObject}
use Rattle.elf_model.specs.Own.OwnLayout.{got_line_of, got_piece, got_pieces, laid_out, own_got, own_headers_size, own_in_load_order, own_laid_out, own_placed, own_places}
use Rattle.elf_model.specs.Link.Pieces.{AreLawfulKinds, Piece}
use Rattle.elf_model.specs.Link.Placement.{Placed, got_things, range_of, thing_of}
use Rattle.elf_model.specs.Link.Slots.{has_got}
use Rattle.elf_model.specs.declared.thing.Thing.{Thing}
use Rattle.elf_model.proofs.Listed.{Contains-from_map, Contains-map}
use Rattle.elf_model.proofs.Pairs.{AllPairs-append}
use Rattle.elf_model.proofs.PieceNumbers.{AreOtherSections, got_pieces-each, got_pieces-pairs, pieces_low, pieces_other}
use Rattle.elf_model.proofs.Places.{at_own_address, got_listed, own_listed}

abbrev pub headers_of : ℕ → ℕ → Thing
headers_of base size = record { at = base; size = size; align = 1; rights = 4; in_file = true }

-- headers of a size, and pieces that memory has a place for
abbrev pub things_in : ℕ → ℕ → List Placed → List Thing
things_in base size order = headers_of base size ∷ map range_of order

-- those of the own layout: the GOT comes before the pieces
abbrev pub own_headers_at : ℕ → List LoadedObject → Thing
own_headers_at base objects = headers_of base (own_headers_size objects)

abbrev pub stood_pieces : List LoadedObject → List Piece
stood_pieces objects = got_pieces objects ++ pieces objects

abbrev pub own_stood : ℕ → List LoadedObject → List Placed
own_stood base objects = own_places base objects (stood_pieces objects)

abbrev pub own_things_of : ℕ → List LoadedObject → List Thing
own_things_of base objects = own_headers_at base objects ∷ map thing_of (own_stood base objects)

-- the GOT is the thing that its line tells
got_things_by :
    (base : ℕ) (objects : List LoadedObject) (b : Bool) →
    got_things (cond b (Some (got_line_of base objects)) None) ≡ map thing_of (own_places base objects (cond b (got_piece objects ∷ []) []))
got_things_by base objects true = refl
got_things_by base objects false = refl

pub own_things_are :
    (base : ℕ) (objects : List LoadedObject) →
    got_things (own_got base objects) ++ map thing_of (own_in_load_order base objects) ≡ map thing_of (own_stood base objects)
own_things_are base objects =
    let at : Piece → Placed = at_own_address base objects in
    ap (λ (ts : List Thing). ts ++ map thing_of (own_in_load_order base objects)) (got_things_by base objects (has_got objects))
    ∙ (sym (map-append thing_of (map at (got_pieces objects)) (map at (pieces objects)))
    ∙ ap (map thing_of) (sym (map-append at (got_pieces objects) (pieces objects))))

-- no two of them are of one section
pub stood_other : (objects : List LoadedObject) → AllPairs AreOtherSections (stood_pieces objects)
stood_other objects =
    AllPairs-append AreOtherSections (got_pieces objects) (pieces objects) (got_pieces-pairs objects AreOtherSections) (pieces_other objects)
    (got_pieces-each objects (λ p. All (AreOtherSections p) (pieces objects))
    (All-weaker (λ q. q.object ≤ length objects) (AreOtherSections (got_piece objects)) (λ q n e f. omega (arith, n, e)) (pieces objects) (pieces_low objects)))

-- a piece of either list, in front or behind
swapped : (xs ys : List Piece) (p : Piece) → Contains (xs ++ ys) p → Contains (ys ++ xs) p
swapped xs ys p c = by (Contains-append_cases xs ys p c)
  where
    by : Contains xs p ⊎ Contains ys p → Contains (ys ++ xs) p
    by (inl x) = Contains-append_right ys xs p x
    by (inr y) = Contains-append_left ys xs p y

module _ (base : ℕ) (objects : List LoadedObject) (kinds : AreLawfulKinds objects) where
  -- each stands where the own order has it, and each of the own order stands there
  pub stood_listed : (q : Placed) → Contains (own_stood base objects) q → Contains (own_placed base objects) q
  stood_listed q c =
      let i = Contains-from_map (at_own_address base objects) (stood_pieces objects) q c in
      subst (Contains (own_placed base objects)) i.is (by i.of (Contains-append_cases (got_pieces objects) (pieces objects) i.of i.there))
    where
      by : (p : Piece) → Contains (got_pieces objects) p ⊎ Contains (pieces objects) p → Contains (own_placed base objects) (at_own_address base objects p)
      by p (inl got) = got_listed base objects kinds p got
      by p (inr piece) = own_listed base objects kinds (at_own_address base objects p) (Contains-map (at_own_address base objects) (pieces objects) p piece)

  pub laid_out_stood : (q : Placed) → Contains (own_laid_out base objects) q → Contains (own_stood base objects) q
  laid_out_stood q c =
      let i = Contains-from_map (at_own_address base objects) (laid_out objects) q c in
      subst (Contains (own_stood base objects)) i.is
      (Contains-map (at_own_address base objects) (stood_pieces objects) i.of (swapped (pieces objects) (got_pieces objects) i.of i.there))
