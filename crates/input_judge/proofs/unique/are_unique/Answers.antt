use Rattle.std.proofs.Common.{List, subst, sym}
use Rattle.std.specs.Prelude.{All}
use Rattle.input_judge.specs.Unique.{IsChosenIfStrong}
use Rattle.input_judge.proofs.UniqueLaws.{unique_told}
use Rattle.elf_model.specs.Link.Resolution.{SymbolOf}
use Rattle.input_judge.proofs.unique.are_unique.Goals as goal

pub returns : goal.returns
returns c =
    let both = unique_told c.args.names.now in (
      λ t. both.0 (subst (λ (ss : List SymbolOf). All (IsChosenIfStrong c.args.names.now) ss) c.definitions.ensures (c.are_chosen_if_strong.ensures.0 t)),
      λ h.
          c.are_chosen_if_strong.ensures.1
          (subst (λ (ss : List SymbolOf). All (IsChosenIfStrong c.args.names.now) ss) (sym c.definitions.ensures) (both.1 h)),
    )
