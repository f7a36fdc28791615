use Rattle.std.proofs.Common.{◌≡◌, ◌∙◌, ℕ, List, Some, ap, subst, sym}
use Rattle.std.specs.Prelude.{option_map, slice_get}
use Rattle.std.specs.Option.{option_and_then}
use Rattle.elf_model.specs.Link.Loading.{LoadedObject}
use Rattle.elf_model.specs.Link.Resolution.{chosen}
use Rattle.check_load.specs.NameNumbers.{number_of}
use Rattle.check_load.specs.Numbered.{name_at}
use Rattle.check_load.specs.Views.{loaded_views}
use Rattle.check_link.specs.Chosen.{position_at}
use Rattle.check_link.specs.DefinitionList.{unnamed}
use Rattle.check_link.proofs.Hints.{choice_told, hinted_number}
use Rattle.check_link.proofs.names.Names.noted_choice.Goals as goal

pub returns : goal.returns
returns c =
    let names = c.self.inside in
    let are = c.self.invariant in
    let k = c.in_ok-known.known in
    choice_told c.args.self.now c.args.object c.args.number c.unnamed_at.result
    (λ o at.
    let there : slice_get (loaded_views names.objects.now) c.args.object ≡ Some o =
    subst (λ (os : List LoadedObject). slice_get os c.args.object ≡ Some o) (sym c.self.view_is) at in
    let number : k ≡ number_of names.chosen.names (name_at o.bytes c.args.number) =
    hinted_number names.chosen.names names.objects.now c.args.object c.args.number k o are.numbered there (sym c.number_at.ensures ∙ c.in_ok-known.was) in
    c.unnamed_at.ensures
    ∙ ap (λ (n : ℕ). option_map unnamed (option_and_then (slice_get names.definitions) (position_at names.chosen.positions.items n))) number
    ∙ ap (option_map unnamed) (are.chosen_are (name_at o.bytes c.args.number))
    ∙ ap (λ (os : List LoadedObject). option_map unnamed (chosen os (name_at o.bytes c.args.number))) c.self.view_is)
