use Rattle.std.proofs.Common.{◌∙◌, ◌||◌, List, ℕ, ap}
use Rattle.std.specs.Str.{bytes_eq}
use Rattle.check_load.specs.NameNumbers.{is_among, with_name}
use Rattle.symbol_judge.proofs.NameSteps.{noted_more, noted_now}
use Rattle.symbol_judge.proofs.entry_names.note.Goals as goal

pub returns-clause-among : goal.returns-clause-among
returns-clause-among c = λ n.
    let names = c.args.names.now in
    ap (λ (ns : List (List ℕ)). is_among ns n) c.in_ok-add.ensures.added
    ∙ (noted_more names c.name_at.result.now n ∙ ap (λ (t : List ℕ). bytes_eq n t || is_among names n) c.name_at.ensures)

pub returns-clause-noted : goal.returns-clause-noted
returns-clause-noted c =
    noted_now c.args.strings.now c.args.names.now c.add.new.self c.args.offset
    (c.in_ok-add.ensures.added ∙ ap (with_name c.args.names.now) c.name_at.ensures)
