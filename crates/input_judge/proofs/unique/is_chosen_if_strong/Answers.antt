use Rattle.std.specs.List.{slice_get}
use Rattle.input_judge.proofs.UniqueLaws.{strong_told, weak_told}
use Rattle.input_judge.proofs.unique.is_chosen_if_strong.Goals as goal

pub returns-then-not-is_strong : goal.returns-then-not-is_strong
returns-then-not-is_strong c =
    weak_told c.args.names.now (slice_get c.args.definitions.now c.args.position) c.is_strong.result c.is_strong.ensures c.if-not-is_strong.true

pub returns : goal.returns
returns c =
    strong_told c.args.names.now (slice_get c.args.definitions.now c.args.position) c.is_strong.result c.is_chosen_at.result c.is_strong.ensures
    c.if-not-is_strong.false c.is_chosen_at.ensures
