use Rattle.std.proofs.Common.{◌≡◌, ◌∙◌, Option, Some, ap, subst, sym}
use Rattle.std.specs.Prelude.{false, option_map}
use Rattle.std.specs.List.{slice_get}
use Rattle.std.specs.Borrow.{Bor}
use Rattle.std.proofs.lemmas.Option.{same_Some}
use Rattle.check_load.specs.Views.{loaded_view, loaded_views}
use Rattle.check_load.specs.declared.loaded.Loaded.{Loaded}
use Rattle.elf_model.specs.Link.Loading.{LoadedObject}
use Rattle.keep_judge.specs.Collected.{presence}
use Rattle.keep_judge.proofs.root_symbols.is_definition_there.Goals as goal

pub returns-in-Some : goal.returns-in-Some
returns-in-Some c =
    let s = c.args.symbol.now in
    let here : slice_get (loaded_views c.args.objects.now) s.object ≡ Some (loaded_view c.in-Some.loaded.now) =
    sym c.object_at.ensures ∙ ap (λ (o : Option (Bor Loaded)). option_map (λ b. loaded_view b.now) o) c.in-Some.is in (
      λ t. λ o there is.
          c.is_not_out.ensures.0 t
          (subst (λ (x : LoadedObject). presence c.args.drops.now s.object x s.entry.st_shndx ≡ Some false) (same_Some _ _ (sym there ∙ here)) is),
      λ h. c.is_not_out.ensures.1 (h (loaded_view c.in-Some.loaded.now) here),
    )
