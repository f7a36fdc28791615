use Rattle.entry_judge.proofs.Enters.{enters_by}
use Rattle.entry_judge.proofs.entries.is_entry_right.Goals as goal

pub returns : goal.returns
returns c = λ l parts entry.
    let law = enters_by l c.args.parts.now c.args.name.now parts entry in (
      λ yes. law.0 (c.enters_at.ensures.0 yes),
      λ right. c.enters_at.ensures.1 (law.1 right),
    )
