-- The flags of the chosen definitions, one for each.
use Rattle.std.proofs.Common.{◌≡◌, ◌∙◌, ℕ, Bool, List, Some, ap, option_map}
use Rattle.std.specs.Prelude.{slice_get}
use Rattle.std.proofs.lemmas.Option.{slice_get-map}
use Rattle.elf_model.specs.Link.ChosenSymbols.{chosen_symbols}
use Rattle.elf_model.specs.Link.Loading.{LoadedObject}
use Rattle.resolve.specs.Places.{at_some}
use Rattle.resolve.specs.Threads.{AreThreads, is_thread_chosen}

-- the flag at a place is that of the definition there
pub flag_at :
    (objects : List LoadedObject) (threads : List Bool) (place : ℕ) → AreThreads objects threads →
    slice_get threads place ≡ option_map (is_thread_chosen objects) (at_some objects (Some place))
flag_at objects threads place are =
    ap (λ (ts : List Bool). slice_get ts place) are
    ∙ slice_get-map (is_thread_chosen objects) (chosen_symbols objects) place
