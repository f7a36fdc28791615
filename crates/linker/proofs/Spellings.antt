-- The lines of the own map fit, one after the other: where those that are left do, all do.
use Rattle.std.proofs.Common.{◌≡◌, ℕ, ◌+◌, ◌<◌, ◌≤◌, List, ◌∷◌, ◌∙◌, ap, drop, get_or, length, map, subst, sym}
use Rattle.std.specs.Prelude.{All}
use Rattle.std.proofs.lemmas.List.{drop_all, drop_more}
use Rattle.std.proofs.lemmas.List.Elements.{All-cons, All-nil}
use Rattle.elf_model.specs.Link.Loading.{LoadedObject}
use Rattle.elf_model.specs.Image.MapText.{AreBytes, FitsObject}
use Rattle.elf_model.specs.Image.RightLink.{object_rows}
use Rattle.search.specs.Views.{loaded_view, loaded_views}
use Rattle.search.specs.declared.loaded.LoadedObject as held

-- what is left of a list begins with the element at which it is
front : {X : Type 0} (xs : List X) (k : ℕ) (x : X) → k < length xs → x ≡ get_or xs k x → drop k xs ≡ x ∷ drop (k + 1) xs
front {X} xs k x within is = drop_more xs k x within ∙ ap (λ (y : X). y ∷ drop (k + 1) xs) (sym is)

pub objects_fit :
    (xs : List held.LoadedObject) (k : ℕ) (x : held.LoadedObject) → k < length xs → x ≡ get_or xs k x →
    FitsObject (record { object = k; item = (loaded_view x).item; offset = (loaded_view x).offset; path = (loaded_view x).path }) →
    All FitsObject (object_rows (k + 1) (loaded_views (drop (k + 1) xs))) → All FitsObject (object_rows k (loaded_views (drop k xs)))
objects_fit xs k x within is fits rest =
    subst (λ (ys : List held.LoadedObject). All FitsObject (object_rows k (loaded_views ys))) (sym (front xs k x within is)) (All-cons FitsObject _ _ fits rest)

pub contents_fit :
    (xs : List held.LoadedObject) (k : ℕ) (x : held.LoadedObject) → k < length xs → x ≡ get_or xs k x → AreBytes (loaded_view x).bytes →
    All (λ o. AreBytes o.bytes) (loaded_views (drop (k + 1) xs)) → All (λ o. AreBytes o.bytes) (loaded_views (drop k xs))
contents_fit xs k x within is fits rest =
    subst (λ (ys : List held.LoadedObject). All (λ (o : LoadedObject). AreBytes o.bytes) (loaded_views ys)) (sym (front xs k x within is))
    (All-cons (λ (o : LoadedObject). AreBytes o.bytes) _ _ fits rest)

-- of what the elements of a list are seen as
pub views_fit :
    {X Y : Type 0} (P : Y → Type 0) (view : X → Y) (xs : List X) (k : ℕ) (d : X) → k < length xs → P (view (get_or xs k d)) →
    All P (map view (drop (k + 1) xs)) → All P (map view (drop k xs))
views_fit {X} P view xs k d within fits rest =
    subst (λ (ys : List X). All P (map view ys)) (sym (drop_more xs k d within)) (All-cons P (view (get_or xs k d)) (map view (drop (k + 1) xs)) fits rest)

pub none_left :
    {X Y : Type 0} (P : Y → Type 0) (view : X → Y) (xs : List X) (k : ℕ) → length xs ≤ k → All P (map view (drop k xs))
none_left {X} P view xs k past = subst (λ (ys : List X). All P (map view ys)) (sym (drop_all k xs past)) (All-nil P)
