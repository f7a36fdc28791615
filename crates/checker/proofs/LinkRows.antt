-- The rows of fields of a link's objects, and the ninth clause by its relocations.
use Rattle.std.proofs.Common.{◌≡◌, ◌<◌, ℕ, zero, suc, List, [], ◌∷◌, Some, ap, get_or, length, refl, subst, sym, ◌∙◌, arith}
use Rattle.std.specs.Prelude.{◌↔◌, slice_get}
use Rattle.std.proofs.lemmas.List.{length-map}
use Rattle.elf_model.specs.Link.Loading.{LoadedObject}
use Rattle.elf_model.specs.Link.Relocation.{Relocation, relocations}
use Rattle.elf_model.specs.Image.RightLink.{AreRelocationsRight, Subject, objects_of, where_of}
use Rattle.check_load.specs.Views.{loaded_view, loaded_views}
use Rattle.check_load.specs.declared.loaded.Loaded.{Loaded}
use Rattle.check_relocs.specs.Bindings.{Bound, bound_of}
use Rattle.check_relocs.specs.Fields.{AreRight}

module _ (s : Subject) (b : Bound) (bound : b ≡ bound_of s) where
  -- what is told of relocations by what names mean is told of them in the link
  pub right_in_link : (P : Type 0) (rs : List Relocation) → (P ↔ AreRight b.objects b.places rs) → P ↔ AreRight (objects_of s) (where_of s) rs
  right_in_link P rs h = subst (λ (c : Bound). P ↔ AreRight c.objects c.places rs) bound h

  module _ (xs : List Loaded) (views : loaded_views xs ≡ b.objects) where
    pub objects_are : loaded_views xs ≡ objects_of s
    objects_are = views ∙ ap (λ (c : Bound). c.objects) bound

    pub count_is : length xs ≡ length (objects_of s)
    count_is = sym (length-map xs loaded_view) ∙ ap length objects_are

-- all relocations are right just where the ninth clause holds
pub ninth : (s : Subject) → AreRight (objects_of s) (where_of s) (relocations (objects_of s)) ↔ AreRelocationsRight s
ninth s = (
  λ r. record {
    lawful = record { each = λ k d low. (r.each k d low).lawful; apart = r.apart };
    fits = λ k d low. (r.each k d low).fits;
  },
  λ h. record {
    each = λ k d low. record { lawful = h.lawful.each k d low; fits = h.fits k d low };
    apart = h.lawful.apart;
  },
)

-- the object that has a number is that of the views
viewed : (xs : List Loaded) (k : ℕ) (d : Loaded) → k < length xs → slice_get (loaded_views xs) k ≡ Some (loaded_view (get_or xs k d))
viewed [] k d low = absurd (omega (arith, low))
viewed (x ∷ xs) zero d low = refl
viewed (x ∷ xs) (suc k) d low = viewed xs k d (omega (arith, low))

pub own_there :
    (xs : List Loaded) (L : List LoadedObject) (k : ℕ) (x : Loaded) → loaded_views xs ≡ L → k < length xs → x ≡ get_or xs k x →
    slice_get L k ≡ Some (loaded_view x)
own_there xs L k x same within is =
    ap (λ (os : List LoadedObject). slice_get os k) (sym same) ∙ (viewed xs k x within ∙ ap (λ (y : Loaded). Some (loaded_view y)) (sym is))
