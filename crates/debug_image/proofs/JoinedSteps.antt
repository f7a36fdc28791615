-- Debug data joined by their names, one section after the other.
use Rattle.std.proofs.Common.{◌≡◌, ℕ, ◌+◌, ◌<◌, ◌≤◌, ◌++◌, ◌∷◌, [], Bool, true, false, cond, List, drop, get_or, length, refl, ap, set, sym, ◌∙◌, subst, take, arith, append_assoc}
use Rattle.std.specs.Prelude.{All}
use Rattle.std.proofs.lemmas.List.{at_drop_more, drop_all, map-append, take-append-drop, take-set, take_all, take_more}
use Rattle.std.proofs.lemmas.Grind.{drop-set_at}
use Rattle.std.proofs.lemmas.List.Elements.{All-append, All-cons, All-head, All-nil, All-tail}
use Rattle.elf_model.proofs.Listed.{All-parts, All-unmap}
use Rattle.elf_model.specs.Link.Loading.{LoadedObject}
use Rattle.elf_model.specs.Link.Pieces.{Piece}
use Rattle.elf_model.specs.Link.Placement.{Placed}
use Rattle.placing.specs.Views.{piece_view, piece_views}
use Rattle.placing.specs.declared.piece.Piece as code_piece
use Rattle.search.specs.Views.{loaded_view, loaded_views}
use Rattle.search.specs.declared.loaded.LoadedObject as code_object
use Rattle.debug_image.specs.DebugSections.{AreFew, AreLow, EndsLow, HaveRoom, IsLow, Joined, debug_pieces, is_flagged, is_joined_of, joined_all, joined_from, joined_with, pieces_unless, place_in, places_from, replaced, rows_from, grown, named}
use Rattle.debug_image.specs.DebugViews.{joined_view, joined_views}
use Rattle.debug_image.specs.declared.joined.Joined as code
use Rattle.resolve.proofs.Walks.{next_loaded}

abbrev pub no_joined : code.Joined
no_joined = record { title = record { ref_ptr = (0, 0); now = [] }; end = 0; align = 0 }

pub joined_low : (js : List code.Joined) → All IsLow (joined_views js) → (k : ℕ) (d : code.Joined) → k < length js → IsLow (joined_view (get_or js k d))
joined_low js all k d within = All-unmap IsLow joined_view js all k d within

replaced_by : (b : Bool) (i j : Joined) (is rest : List Joined) → IsLow i → IsLow j → All IsLow is → All IsLow rest → All IsLow (cond b (j ∷ is) (i ∷ rest))
replaced_by true i j is rest first low all more = All-cons IsLow j is low all
replaced_by false i j is rest first low all more = All-cons IsLow i rest first more

pub replaced_low : (js : List Joined) (j : Joined) → All IsLow js → IsLow j → All IsLow (replaced js j)
replaced_low [] j all low = All-cons IsLow j [] low (All-nil IsLow)
replaced_low (i ∷ is) j all low =
    let rest = All-tail IsLow i is all in
    replaced_by (is_joined_of j.title i) i j is (replaced is j) (All-head IsLow i is all) low rest (replaced_low is j rest low)

-- what is put in place of another one
set_parts : (js : List code.Joined) (k : ℕ) (m : code.Joined) → k < length js → set js k m ≡ take k js ++ m ∷ drop (k + 1) js
set_parts js k m within =
    sym (take-append-drop k (set js k m))
    ∙ ap (λ (xs : List code.Joined). xs ++ drop k (set js k m)) (take-set js k m)
    ∙ ap (λ (xs : List code.Joined). take k js ++ xs) (drop-set_at js k k m refl within)

views_set : (js : List code.Joined) (k : ℕ) (m : code.Joined) → k < length js → joined_views (set js k m) ≡ joined_views (take k js) ++ joined_view m ∷ joined_views (drop (k + 1) js)
views_set js k m within = ap joined_views (set_parts js k m within) ∙ map-append joined_view (take k js) (m ∷ drop (k + 1) js)

left_at :
    (js : List code.Joined) (m : Joined) (k : ℕ) (d : code.Joined) → k < length js →
    replaced (joined_views (drop k js)) m
    ≡ cond (is_joined_of m.title (joined_view (get_or js k d))) (m ∷ joined_views (drop (k + 1) js))
    (joined_view (get_or js k d) ∷ replaced (joined_views (drop (k + 1) js)) m)
left_at js m k d within = at_drop_more (λ (xs : List code.Joined). replaced (joined_views xs) m) js k d within

pub put_here :
    (js : List code.Joined) (m : code.Joined) (k : ℕ) (d : code.Joined) (all : List Joined) → k < length js →
    is_joined_of m.title.now (joined_view (get_or js k d)) ≡ true →
    joined_views (take k js) ++ replaced (joined_views (drop k js)) (joined_view m) ≡ all → joined_views (set js k m) ≡ all
put_here js m k d all within same so_far =
    let rest : List Joined = joined_views (drop (k + 1) js) in
    views_set js k m within
    ∙ ap (λ (xs : List Joined). joined_views (take k js) ++ xs)
    (sym
    (left_at js (joined_view m) k d within
    ∙ ap (λ (b : Bool). cond b (joined_view m ∷ rest) (joined_view (get_or js k d) ∷ replaced rest (joined_view m))) same))
    ∙ so_far

pub put_more :
    (js : List code.Joined) (m : code.Joined) (k : ℕ) (d : code.Joined) (all : List Joined) → k < length js →
    is_joined_of m.title.now (joined_view (get_or js k d)) ≡ false →
    joined_views (take k js) ++ replaced (joined_views (drop k js)) (joined_view m) ≡ all →
    joined_views (take (k + 1) js) ++ replaced (joined_views (drop (k + 1) js)) (joined_view m) ≡ all
put_more js m k d all within other so_far =
    let rest : List Joined = joined_views (drop (k + 1) js) in
    let one : Joined = joined_view (get_or js k d) in
    ap (λ (xs : List Joined). xs ++ replaced rest (joined_view m)) (ap joined_views (take_more js k d within) ∙ map-append joined_view (take k js) (get_or js k d ∷ []))
    ∙ append_assoc (joined_views (take k js)) (one ∷ []) (replaced rest (joined_view m))
    ∙ ap (λ (xs : List Joined). joined_views (take k js) ++ xs)
    (sym (left_at js (joined_view m) k d within ∙ ap (λ (b : Bool). cond b (joined_view m ∷ rest) (one ∷ replaced rest (joined_view m))) other))
    ∙ so_far

pub put_last :
    (js : List code.Joined) (m : code.Joined) (k : ℕ) (all : List Joined) → length js ≤ k →
    joined_views (take k js) ++ replaced (joined_views (drop k js)) (joined_view m) ≡ all → joined_views (js ++ m ∷ []) ≡ all
put_last js m k all end so_far =
    map-append joined_view js (m ∷ [])
    ∙ sym
    (ap (λ (xs : List code.Joined). joined_views xs ++ replaced (joined_views (drop k js)) (joined_view m)) (take_all k js end)
    ∙ ap (λ (xs : List code.Joined). joined_views js ++ replaced (joined_views xs) (joined_view m)) (drop_all k js end))
    ∙ so_far

-- one more section of an object
left_pieces :
    (js : List Joined) (ps : List code_piece.Piece) (k : ℕ) (d : code_piece.Piece) → k < length ps →
    places_from js (piece_views (drop k ps)) ≡ place_in js (piece_view (get_or ps k d)) ∷ places_from (joined_with js (piece_view (get_or ps k d))) (piece_views (drop (k + 1) ps))
left_pieces js ps k d within = at_drop_more (λ (xs : List code_piece.Piece). places_from js (piece_views xs)) ps k d within

pub places_more :
    (js new : List Joined) (ps : List code_piece.Piece) (k : ℕ) (d : code_piece.Piece) (qs more all : List Placed) → k < length ps →
    more ≡ qs ++ place_in js (piece_view (get_or ps k d)) ∷ [] → new ≡ joined_with js (piece_view (get_or ps k d)) →
    qs ++ places_from js (piece_views (drop k ps)) ≡ all → more ++ places_from new (piece_views (drop (k + 1) ps)) ≡ all
places_more js new ps k d qs more all within is is_new so_far =
    let p : Piece = piece_view (get_or ps k d) in
    let rest : List Piece = piece_views (drop (k + 1) ps) in
    ap (λ (xs : List Placed). xs ++ places_from new rest) is
    ∙ ap (λ (xs : List Joined). (qs ++ place_in js p ∷ []) ++ places_from xs rest) is_new
    ∙ append_assoc qs (place_in js p ∷ []) (places_from (joined_with js p) rest)
    ∙ ap (λ (xs : List Placed). qs ++ xs) (sym (left_pieces js ps k d within))
    ∙ so_far

pub joined_more :
    (js new : List Joined) (ps : List code_piece.Piece) (k : ℕ) (d : code_piece.Piece) (all : List Joined) → k < length ps →
    new ≡ joined_with js (piece_view (get_or ps k d)) → joined_all js (piece_views (drop k ps)) ≡ all →
    joined_all new (piece_views (drop (k + 1) ps)) ≡ all
joined_more js new ps k d all within is so_far =
    ap (λ (xs : List Joined). joined_all xs (piece_views (drop (k + 1) ps))) is
    ∙ sym (at_drop_more (λ (xs : List code_piece.Piece). joined_all js (piece_views xs)) ps k d within)
    ∙ so_far

pub ends_more : (qs more : List Placed) (q : Placed) → more ≡ qs ++ q ∷ [] → All EndsLow qs → EndsLow q → All EndsLow more
ends_more qs more q is all low = subst (All EndsLow) (sym is) (All-append EndsLow qs (q ∷ []) all (All-cons EndsLow q [] low (All-nil EndsLow)))

-- what is joined grows
replaced_grows : (js : List Joined) (j : Joined) → length js ≤ length (replaced js j)
replaced_grows [] j = grind (arith)
replaced_grows (i ∷ is) j = by (is_joined_of j.title i) (replaced_grows is j)
  where
    by : (b : Bool) → length is ≤ length (replaced is j) → length (i ∷ is) ≤ length (cond b (j ∷ is) (i ∷ replaced is j))
    by true e = grind (arith)
    by false e = grind (arith, e)

all_grow : (js : List Joined) (ps : List Piece) → length js ≤ length (joined_all js ps)
all_grow js [] = grind (arith)
all_grow js (p ∷ ps) =
    let one = replaced_grows js (grown (named js p.name) p) in
    let more = all_grow (joined_with js p) ps in
    grind (arith, one, more)

from_grows : (flags : List Bool) (js : List Joined) (k : ℕ) (os : List LoadedObject) → length js ≤ length (joined_from flags js k os)
from_grows flags js k [] = grind (arith)
from_grows flags js k (o ∷ os) =
    let one = all_grow js (debug_pieces flags k o) in
    let more = from_grows flags (joined_all js (debug_pieces flags k o)) (k + 1) os in
    grind (arith, one, more)

pub too_high : (js : List Joined) (p : Piece) → ¬ EndsLow (place_in js p) → ¬ HaveRoom js (p ∷ [])
too_high js p high = λ room. high (All-head EndsLow (place_in js p) [] room.low)

pub no_room :
    (js : List Joined) (ps : List code_piece.Piece) (k : ℕ) (d : code_piece.Piece) (qs : List Placed) (first : List Joined) → k < length ps →
    qs ++ places_from js (piece_views (drop k ps)) ≡ places_from first (piece_views ps) →
    joined_all js (piece_views (drop k ps)) ≡ joined_all first (piece_views ps) →
    ¬ HaveRoom js (piece_view (get_or ps k d) ∷ []) → ¬ HaveRoom first (piece_views ps)
no_room js ps k d qs first within places joined none = λ room.
    let p : Piece = piece_view (get_or ps k d) in
    let rest : List Piece = piece_views (drop (k + 1) ps) in
    let parts : All EndsLow (place_in js p ∷ places_from (joined_with js p) rest) =
    subst (All EndsLow) (left_pieces js ps k d within)
    ((All-parts EndsLow qs (places_from js (piece_views (drop k ps))) (subst (All EndsLow) (sym places) room.low)).1) in
    let same : length (joined_all first (piece_views ps)) ≡ length (joined_all (joined_with js p) rest) =
    ap (λ (xs : List Joined). length xs)
    (sym joined ∙ at_drop_more (λ (xs : List code_piece.Piece). joined_all js (piece_views xs)) ps k d within) in
    let few = room.few in
    let more = all_grow (joined_with js p) rest in
    none
    (record {
      low = All-cons EndsLow (place_in js p) [] (All-head EndsLow (place_in js p) (places_from (joined_with js p) rest) parts) (All-nil EndsLow);
      few = grind (arith, few, same, more);
    })

-- the sections of one more object
left_rows :
    (flags : List Bool) (js : List Joined) (os : List code_object.LoadedObject) (k : ℕ) (d : code_object.LoadedObject) → k < length os → d ≡ get_or os k d →
    rows_from flags js k (drop k (loaded_views os))
    ≡ places_from js (debug_pieces flags k (loaded_view d)) ∷ rows_from flags (joined_all js (debug_pieces flags k (loaded_view d))) (k + 1) (drop (k + 1) (loaded_views os))
left_rows flags js os k d within is = ap (λ (xs : List LoadedObject). rows_from flags js k xs) (next_loaded os k d within is)

pub rows_more :
    (flags : List Bool) (js new : List Joined) (os : List code_object.LoadedObject) (k : ℕ) (d : code_object.LoadedObject) (rows more all : List (List Placed)) →
    k < length os → d ≡ get_or os k d → more ≡ rows ++ places_from js (debug_pieces flags k (loaded_view d)) ∷ [] →
    new ≡ joined_all js (debug_pieces flags k (loaded_view d)) → rows ++ rows_from flags js k (drop k (loaded_views os)) ≡ all →
    more ++ rows_from flags new (k + 1) (drop (k + 1) (loaded_views os)) ≡ all
rows_more flags js new os k d rows more all within is is_more is_new so_far =
    let row : List Placed = places_from js (debug_pieces flags k (loaded_view d)) in
    let rest : List LoadedObject = drop (k + 1) (loaded_views os) in
    ap (λ (xs : List (List Placed)). xs ++ rows_from flags new (k + 1) rest) is_more
    ∙ ap (λ (xs : List Joined). (rows ++ row ∷ []) ++ rows_from flags xs (k + 1) rest) is_new
    ∙ append_assoc rows (row ∷ []) (rows_from flags (joined_all js (debug_pieces flags k (loaded_view d))) (k + 1) rest)
    ∙ ap (λ (xs : List (List Placed)). rows ++ xs) (sym (left_rows flags js os k d within is))
    ∙ so_far

pub joined_from_more :
    (flags : List Bool) (js new : List Joined) (os : List code_object.LoadedObject) (k : ℕ) (d : code_object.LoadedObject) (all : List Joined) → k < length os →
    d ≡ get_or os k d → new ≡ joined_all js (debug_pieces flags k (loaded_view d)) → joined_from flags js k (drop k (loaded_views os)) ≡ all →
    joined_from flags new (k + 1) (drop (k + 1) (loaded_views os)) ≡ all
joined_from_more flags js new os k d all within is is_new so_far =
    ap (λ (xs : List Joined). joined_from flags xs (k + 1) (drop (k + 1) (loaded_views os))) is_new
    ∙ sym (ap (λ (xs : List LoadedObject). joined_from flags js k xs) (next_loaded os k d within is))
    ∙ so_far

pub rows_low_more : (rows more : List (List Placed)) (row : List Placed) → more ≡ rows ++ row ∷ [] → AreLow rows → All EndsLow row → AreLow more
rows_low_more rows more row is all low =
    subst AreLow (sym is) (All-append (All EndsLow) rows (row ∷ []) all (All-cons (All EndsLow) row [] low (All-nil (All EndsLow))))

pub rows_no_room :
    (flags : List Bool) (js : List Joined) (os : List code_object.LoadedObject) (k : ℕ) (d : code_object.LoadedObject) (rows : List (List Placed)) → k < length os →
    d ≡ get_or os k d → rows ++ rows_from flags js k (drop k (loaded_views os)) ≡ rows_from flags [] 0 (loaded_views os) →
    joined_from flags js k (drop k (loaded_views os)) ≡ joined_from flags [] 0 (loaded_views os) → ¬ HaveRoom js (debug_pieces flags k (loaded_view d)) →
    ¬ AreFew (rows_from flags [] 0 (loaded_views os)) (joined_from flags [] 0 (loaded_views os))
rows_no_room flags js os k d rows within is so_far joined none = λ few.
    let row : List Placed = places_from js (debug_pieces flags k (loaded_view d)) in
    let new : List Joined = joined_all js (debug_pieces flags k (loaded_view d)) in
    let rest : List (List Placed) = rows_from flags new (k + 1) (drop (k + 1) (loaded_views os)) in
    let parts : AreLow (row ∷ rest) =
    subst AreLow (left_rows flags js os k d within is)
    ((All-parts (All EndsLow) rows (rows_from flags js k (drop k (loaded_views os))) (subst AreLow (sym so_far) few.low)).1) in
    let same : length (joined_from flags [] 0 (loaded_views os)) ≡ length (joined_from flags new (k + 1) (drop (k + 1) (loaded_views os))) =
    ap (λ (xs : List Joined). length xs) (sym joined ∙ ap (λ (xs : List LoadedObject). joined_from flags js k xs) (next_loaded os k d within is)) in
    let count = few.few in
    let more = from_grows flags new (k + 1) (drop (k + 1) (loaded_views os)) in
    none (record { low = All-head (All EndsLow) row rest parts; few = grind (arith, count, same, more) })

-- the first objects and the next one
pub views_more :
    (os : List code_object.LoadedObject) (k : ℕ) (d : code_object.LoadedObject) → k < length os → d ≡ get_or os k d →
    loaded_views (take (k + 1) os) ≡ loaded_views (take k os) ++ loaded_view d ∷ []
views_more os k d within is =
    ap loaded_views (take_more os k d within)
    ∙ map-append loaded_view (take k os) (get_or os k d ∷ [])
    ∙ ap (λ (x : code_object.LoadedObject). loaded_views (take k os) ++ loaded_view x ∷ []) (sym is)

-- what goes into the image of an object, by its flag
pub by_flag : (flags : List Bool) (left : Bool) (k : ℕ) (o : LoadedObject) → left ≡ is_flagged flags k → pieces_unless left k o ≡ debug_pieces flags k o
by_flag flags left k o is = ap (λ (b : Bool). pieces_unless b k o) is
