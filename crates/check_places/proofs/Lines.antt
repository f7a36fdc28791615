-- Two lists are equal: the claim on what is left of both, as a tester's loop goes on.
use Rattle.std.proofs.Common.{◌≡◌, ℕ, ◌+◌, ◌<◌, List, [], ◌∷◌, length, get_or, drop, map, refl, sym, ap, ◌∙◌, arith}
use Rattle.std.proofs.lemmas.List.{at_drop_more, length-map}
use Rattle.elf_model.specs.Link.Loading.{LoadedObject}
use Rattle.linkmap.specs.Borrowed.{object_row, place_row}
use Rattle.elf_model.specs.Image.RightLink.{facts_of_piece, facts_of_row, object_rows}
use Rattle.linkmap.specs.declared.borrowed.BorrowedObject.{BorrowedObject}
use Rattle.linkmap.specs.declared.borrowed.BorrowedPlace.{BorrowedPlace}
use Rattle.elf_model.proofs.Rests.{Left}
use Rattle.check_places.specs.ObjectLines.{row_of}
use Rattle.check_load.specs.Views.{loaded_view, loaded_views}
use Rattle.check_link.specs.Views.{piece_view, piece_views}
use Rattle.check_load.specs.declared.loaded.Loaded.{Loaded}
use Rattle.check_link.specs.declared.things.Piece.{Piece}

module _ {Z : Type 0} (Q : Type 0) where
  pub cells_more : (a b : Z) (us vs us' vs' : List Z) → us ≡ a ∷ us' → vs ≡ b ∷ vs' → a ≡ b → Left Q (us ≡ vs) → Left Q (us' ≡ vs')
  cells_more a b us vs us' vs' eu ev same q = (
    λ h. let e : us ≡ vs = q.0 h in cc,
    λ e. q.1 (cc),
  )

  pub cells_stop : (a b : Z) (us vs us' vs' : List Z) → us ≡ a ∷ us' → vs ≡ b ∷ vs' → (a ≡ b → ⊥) → Left Q (us ≡ vs) → Q → ⊥
  cells_stop a b us vs us' vs' eu ev never q h = never (let e : us ≡ vs = q.0 h in cc)

pub length-object_rows : (k : ℕ) (os : List LoadedObject) → length (object_rows k os) ≡ length os
length-object_rows k [] = refl
length-object_rows k (o ∷ os) = let ih = length-object_rows (k + 1) os in omega (arith, ih)

pub map_front :
    {X Z : Type 0} (f : X → Z) (xs : List X) (k : ℕ) (x : X) → k < length xs → x ≡ get_or xs k x →
    map f (drop k xs) ≡ f x ∷ map f (drop (k + 1) xs)
map_front f xs k x within read = at_drop_more (map f) xs k x within ∙ ap (λ y. f y ∷ map f (drop (k + 1) xs)) (sym read)

pub rows_front :
    (os : List Loaded) (k : ℕ) (o : Loaded) → k < length os → o ≡ get_or os k o →
    object_rows k (loaded_views (drop k os)) ≡ row_of k (loaded_view o) ∷ object_rows (k + 1) (loaded_views (drop (k + 1) os))
rows_front os k o within read =
    at_drop_more (λ (xs : List Loaded). object_rows k (loaded_views xs)) os k o within
    ∙ ap (λ (y : Loaded). row_of k (loaded_view y) ∷ object_rows (k + 1) (loaded_views (drop (k + 1) os))) (sym read)

pub rows_length : (lines : List BorrowedObject) (os : List Loaded) → map object_row lines ≡ object_rows 0 (loaded_views os) → length lines ≡ length os
rows_length lines os e =
    sym (length-map lines object_row) ∙ (ap length e ∙ (length-object_rows 0 (loaded_views os) ∙ length-map os loaded_view))

pub facts_front :
    (lines : List BorrowedPlace) (k : ℕ) (x : BorrowedPlace) → k < length lines → x ≡ get_or lines k x →
    map facts_of_row (map place_row (drop k lines)) ≡ facts_of_row (place_row x) ∷ map facts_of_row (map place_row (drop (k + 1) lines))
facts_front lines k x within read = ap (map facts_of_row) (map_front place_row lines k x within read)

pub piece_facts_front :
    (ps : List Piece) (k : ℕ) (d : Piece) → k < length ps →
    map facts_of_piece (piece_views (drop k ps))
    ≡ facts_of_piece (piece_view (get_or ps k d)) ∷ map facts_of_piece (piece_views (drop (k + 1) ps))
piece_facts_front ps k d within = at_drop_more (λ (xs : List Piece). map facts_of_piece (piece_views xs)) ps k d within
