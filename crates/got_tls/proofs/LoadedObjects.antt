-- The relocations of the next one of the loaded objects, and the object itself.
use Rattle.std.proofs.Common.{◌≡◌, ℕ, ◌+◌, ◌<◌, List, ◌++◌, Some, get_or, length, option_map, sym, ap, ◌∙◌}
use Rattle.std.specs.List.{slice_get}
use Rattle.std.proofs.lemmas.Option.{slice_get-get_or, slice_get-map}
use Rattle.elf_model.specs.Link.Relocation.{relocations_from}
use Rattle.elf_model.proofs.FlatRelocations.{left_of_objects, object_more}
use Rattle.search.specs.Views.{loaded_view, loaded_views}
use Rattle.search.specs.declared.loaded.LoadedObject as code

module _ (xs : List code.LoadedObject) (k : ℕ) (d : code.LoadedObject) (within : k < length xs) (is : d ≡ get_or xs k d) where
  pub next_relocations :
      left_of_objects loaded_view xs k ≡ relocations_from k (loaded_view d) ++ left_of_objects loaded_view xs (k + 1)
  next_relocations =
      object_more loaded_view xs k d within
      ∙ ap (λ (l : code.LoadedObject). relocations_from k (loaded_view l) ++ left_of_objects loaded_view xs (k + 1)) (sym is)

  pub next_there : slice_get (loaded_views xs) k ≡ Some (loaded_view d)
  next_there =
      slice_get-map loaded_view xs k
      ∙ ap (option_map loaded_view) (slice_get-get_or xs k d within)
      ∙ ap (λ (l : code.LoadedObject). Some (loaded_view l)) (sym is)
