use Rattle.std.proofs.Common.{◌≡◌, ◌∙◌, ℕ, List, None, Option, Some, cond, subst, sym}
use Rattle.std.specs.Option.{option_or}
use Rattle.std.specs.Str.{bytes_eq}
use Rattle.check_link.specs.ByName.{found_in}
use Rattle.symbol_judge.proofs.IndexSteps.{row_added}
use Rattle.symbol_judge.proofs.name_values.add_row.Goals as goal

pub returns-in_ok-insert : goal.returns-in_ok-insert
returns-in_ok-insert c = λ n.
    subst
    (λ (bytes : List ℕ). found_in c.insert.new.self n ≡ option_or (found_in c.args.index.now n) (cond {A = Option ℕ} (bytes_eq bytes n) (Some c.args.row.now.value) None))
    c.as_slice-name.ensures.value
    (row_added c.args.index.now c.insert.new.self c.as_slice-name.result.now c.args.row.now.value
    (sym c.contains_key.ensures ∙ c.if-not-contains_key.true) c.in_ok-insert.ensures.updates n)
