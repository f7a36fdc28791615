-- The LOCAL symbols of objects, from one object to the next.
use Rattle.std.proofs.Common.{◌≡◌, ◌<◌, ◌+◌, ◌++◌, ◌∙◌, ℕ, List, ap, append_assoc, drop, get_or, length, sym}
use Rattle.search.specs.Views.{loaded_view, loaded_views}
use Rattle.search.specs.declared.loaded.LoadedObject as code
use Rattle.resolve.proofs.Walks.{next_loaded}
use Rattle.debug_image.specs.Symbols.{Laid, object_rows, rows_from}
use Rattle.debug_image.specs.Tables.{Row}

pub rows_more :
    (l : Laid) (found more all : List Row) (objects : List code.LoadedObject) (k : ℕ) (d : code.LoadedObject) →
    k < length objects → d ≡ get_or objects k d →
    more ≡ found ++ object_rows l k (loaded_view d) →
    found ++ rows_from l k (drop k (loaded_views objects)) ≡ all →
    more ++ rows_from l (k + 1) (drop (k + 1) (loaded_views objects)) ≡ all
rows_more l found more all objects k d within is added so_far =
    let rest : List Row = rows_from l (k + 1) (drop (k + 1) (loaded_views objects)) in
    ap (λ (xs : List Row). xs ++ rest) added
    ∙ append_assoc found (object_rows l k (loaded_view d)) rest
    ∙ ap (λ (xs : List Row). found ++ xs) (sym (ap (rows_from l k) (next_loaded objects k d within is)))
    ∙ so_far
