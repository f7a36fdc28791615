-- What a chosen symbol means: something, since a common one has a block.
use Rattle.std.proofs.Common.{◌≡◌, ℕ, List, ◌∙◌, ap, Option, None, Some, option_map}
use Rattle.std.specs.Prelude.{IfNone, is_some}
use Rattle.std.proofs.lemmas.Bool.{false≢true}
use Rattle.elf_model.specs.Link.Loading.{LoadedObject}
use Rattle.elf_model.specs.Link.Meaning.{Meaning, meant}
use Rattle.elf_model.specs.Link.Resolution.{SymbolOf, chosen}
use Rattle.elf_model.proofs.Listing.{chosen_means}
use Rattle.resolve.specs.Views.{meaning_view}
use Rattle.resolve.specs.declared.definition.Definition as code

pub never_none :
    (L : List LoadedObject) (n : List ℕ) (s : SymbolOf) → chosen L n ≡ Some s → (X : Type 0) (r : Option code.Definition) →
    option_map meaning_view r ≡ meant L s → IfNone r X
never_none L n s is X None e = absurd (false≢true (ap (λ (o : Option Meaning). is_some o) e ∙ chosen_means L n s is))
never_none L n s is X (Some m) e = tt
