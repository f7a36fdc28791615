use Rattle.std.proofs.Common.{◌≡◌, ◌∙◌, ℕ, List, [], None, rules}
use Rattle.check_link.specs.ByName.{found_in, over}
use Rattle.check_link.proofs.ByNames.{no_change}
use Rattle.check_link.proofs.by_name.ByName.new.Goals as goal

pub returns-clause-empty : goal.returns-clause-empty
returns-clause-empty g c =
    let none : (n : List ℕ) → found_in c.new.result n ≡ None = λ n. search rules in
    let none_beside : (n : List ℕ) → over [] None (found_in c.new.result) n ≡ None = λ n. no_change (found_in c.new.result) [] None n (none []) ∙ none n in
    λ n. no_change (over [] None (found_in c.new.result)) [] None n (none_beside []) ∙ none_beside n
