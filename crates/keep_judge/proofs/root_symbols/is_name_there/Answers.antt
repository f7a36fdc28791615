use Rattle.std.proofs.Common.{◌≡◌, ◌∙◌, List, Some, ap, subst, sym}
use Rattle.std.specs.Prelude.{◌↔◌, IsTrue, option_map}
use Rattle.std.proofs.lemmas.Option.{same_Some}
use Rattle.check_link.specs.Views.{symbol_view}
use Rattle.elf_model.specs.Link.Loading.{LoadedObject}
use Rattle.elf_model.specs.Link.Resolution.{SymbolOf, chosen}
use Rattle.keep_judge.specs.Collected.{IsDefinitionThere}
use Rattle.keep_judge.proofs.root_symbols.is_name_there.Goals as goal

pub returns-in-Some : goal.returns-in-Some
returns-in-Some c =
    let os = c.args.names.now in
    let s = symbol_view c.in-Some.symbol in
    let is : chosen os c.args.name.now ≡ Some s = sym c.chosen.ensures ∙ ap (option_map symbol_view) c.in-Some.is in
    let told =
    subst (λ (xs : List LoadedObject). IsTrue c.is_definition_there.result ↔ IsDefinitionThere xs c.args.drops.now s) c.objects.ensures c.is_definition_there.ensures in (
      λ t. λ other there. subst (λ (x : SymbolOf). IsDefinitionThere os c.args.drops.now x) (same_Some _ _ (sym is ∙ there)) (told.0 t),
      λ h. told.1 (h s is),
    )
