use Rattle.std.proofs.Common.{◌<◌, [], false, length, subst, sym, ◌∙◌}
use Rattle.std.specs.Prelude.{All, ℕ}
use Rattle.std.proofs.lemmas.Bool.{false≢true}
use Rattle.input_judge.specs.Unique.{IsChosenIfStrong}
use Rattle.elf_model.proofs.Rests.{all_more, all_stop}
use Rattle.elf_model.specs.Inputs.ObjectFile.{null_symbol}
use Rattle.elf_model.specs.Link.Resolution.{SymbolOf}
use Rattle.input_judge.proofs.UniqueLaws.{told_at}
use Rattle.input_judge.proofs.unique.are_chosen_if_strong.Goals as goal

none : SymbolOf
none = record { object = 0; number = 0; name = []; entry = null_symbol; dropped = false }

pub loop-position-preserved : goal.loop-position-preserved
loop-position-preserved c =
    let P = IsChosenIfStrong c.args.names.now in
    let xs = c.args.definitions.now in
    let i = c.loop-position.position in
    let low : i < length xs = subst (λ (n : ℕ). i < n) c.len-position-end.ensures c.loop-position-test.true in
    all_more (All P xs) P xs i none low
    ((told_at c.args.names.now xs i none c.is_chosen_if_strong.result low c.is_chosen_if_strong.ensures).0 c.if-not-is_chosen_if_strong.false)
    c.loop-position.invariant

pub returns-then-not-is_chosen_if_strong : goal.returns-then-not-is_chosen_if_strong
returns-then-not-is_chosen_if_strong c =
    let P = IsChosenIfStrong c.args.names.now in
    let xs = c.args.definitions.now in
    let i = c.loop-position.position in
    let low : i < length xs = subst (λ (n : ℕ). i < n) c.len-position-end.ensures c.loop-position-test.true in (
      λ t. absurd (false≢true t),
      λ all. absurd
          (all_stop (All P xs) P xs i none low
          (λ h.
          false≢true
          (sym c.if-not-is_chosen_if_strong.true
          ∙ (told_at c.args.names.now xs i none c.is_chosen_if_strong.result low c.is_chosen_if_strong.ensures).1 h))
          c.loop-position.invariant all),
    )
