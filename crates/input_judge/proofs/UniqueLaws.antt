-- Definitions of which each strong one is chosen, one more at a time.
use Rattle.std.proofs.Common.{◌≡◌, ℕ, ◌<◌, Bool, true, false, List, Option, None, Some, get_or, length, refl, subst, sym, ◌∙◌}
use Rattle.std.specs.Prelude.{◌↔◌, All, IfSome, IsTrue, slice_get}
use Rattle.std.specs.Option.{option_map_or}
use Rattle.std.proofs.lemmas.Bool.{false≢true, or_left}
use Rattle.std.proofs.lemmas.List.Elements.{All-weaker}
use Rattle.std.proofs.lemmas.Option.{slice_get-get_or}
use Rattle.input_judge.specs.Unique.{IsChosenIfStrong}
use Rattle.elf_model.proofs.ChosenSymbols.{all_chosen, unique_from_chosen}
use Rattle.elf_model.specs.Link.ChosenSymbols.{definitions, is_chosen, is_definition}
use Rattle.elf_model.specs.Link.Loading.{LoadedObject}
use Rattle.elf_model.specs.Link.Resolution.{AreUnique, SymbolOf, all_symbols, is_strong}
use Rattle.link_fields.proofs.Lists.{passing}

module _ (objects : List LoadedObject) where
  pub weak_told : (o : Option SymbolOf) (strong : Bool) → strong ≡ option_map_or is_strong o false → strong ≡ false →
      IfSome o (λ s. IsTrue true ↔ IsChosenIfStrong objects s)
  weak_told None strong e weak = tt
  weak_told (Some s) strong e weak = (λ t is. absurd (false≢true (sym weak ∙ (e ∙ is))), λ h. refl)

  pub strong_told : (o : Option SymbolOf) (strong chosen : Bool) → strong ≡ option_map_or is_strong o false → strong ≡ true →
      chosen ≡ option_map_or (is_chosen objects) o false → IfSome o (λ s. IsTrue chosen ↔ IsChosenIfStrong objects s)
  strong_told None strong chosen e is f = tt
  strong_told (Some s) strong chosen e is f = (λ t strong_. sym f ∙ t, λ h. f ∙ h (sym e ∙ is))

  pub told_at : (xs : List SymbolOf) (i : ℕ) (d : SymbolOf) (r : Bool) → i < length xs → IfSome (slice_get xs i) (λ s. IsTrue r ↔ IsChosenIfStrong objects s) →
      IsTrue r ↔ IsChosenIfStrong objects (get_or xs i d)
  told_at xs i d r low told = subst (λ (o : Option SymbolOf). IfSome o (λ s. IsTrue r ↔ IsChosenIfStrong objects s)) (slice_get-get_or xs i d low) told

-- no name has two strong definitions where each strong one is chosen
pub unique_told : (objects : List LoadedObject) → All (IsChosenIfStrong objects) (definitions objects) ↔ AreUnique objects
unique_told objects =
    let all = all_symbols objects in
    let IsChosen : SymbolOf → Type 0 = λ s. is_chosen objects s ≡ true in
    let strong = passing IsChosen is_strong all in
    let defined = passing (IsChosenIfStrong objects) is_definition all in (
      λ each.
          unique_from_chosen objects
          (strong.1
          (All-weaker (λ (s : SymbolOf). is_definition s ≡ true → IsChosenIfStrong objects s) (IsChosenIfStrong objects)
          (λ s h t. h (or_left (is_strong s) _ t) t) all (defined.0 each))),
      λ unique.
          defined.1
          (All-weaker (IsChosenIfStrong objects) (λ (s : SymbolOf). is_definition s ≡ true → IsChosenIfStrong objects s) (λ s h there. h) all
          (strong.0 (all_chosen objects unique))),
    )
