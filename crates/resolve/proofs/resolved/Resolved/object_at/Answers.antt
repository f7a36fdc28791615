use Rattle.std.proofs.Common.{◌≡◌, ◌<◌, ◌≤◌, ℕ, List, length, sym, ap, ◌∙◌}
use Rattle.std.specs.Prelude.{Option, None, Some, option_map}
use Rattle.std.specs.Borrow.{Bor}
use Rattle.std.specs.List.{HoldsAt, slice_get}
use Rattle.std.specs.Option.{MatchOption}
use Rattle.std.proofs.lemmas.Option.{slice_get-get_or, slice_get-map, slice_get_past}
use Rattle.elf_model.specs.Link.Loading.{LoadedObject}
use Rattle.search.specs.Views.{loaded_view, loaded_views}
use Rattle.search.specs.declared.loaded.LoadedObject as code
use Rattle.resolve.proofs.resolved.Resolved.object_at.Goals as goal

-- an element that is there, as the definitions see it, and none past the end
viewed :
    (xs : List code.LoadedObject) (i : ℕ) (o : Option (Bor code.LoadedObject)) →
    MatchOption o (length xs ≤ i) (λ b. (i < length xs) × HoldsAt (λ y. b.now ≡ y) xs i) →
    option_map (λ (b : Bor code.LoadedObject). loaded_view b.now) o ≡ slice_get (loaded_views xs) i
viewed xs i None past = sym (slice_get-map loaded_view xs i ∙ ap (option_map loaded_view) (slice_get_past xs i past))
viewed xs i (Some b) at =
    ap (λ (x : code.LoadedObject). Some (loaded_view x)) (at.1 b.now)
    ∙ sym (slice_get-map loaded_view xs i ∙ ap (option_map loaded_view) (slice_get-get_or xs i b.now at.0))

pub returns : goal.returns
returns c =
    viewed c.objects.result.now c.args.object c.get.result c.get.ensures.lookup.3
    ∙ ap (λ (os : List LoadedObject). slice_get os c.args.object) (c.objects.ensures.exact ∙ c.self.view_is)
