use Rattle.input_judge.proofs.SetLaws.{added}
use Rattle.input_judge.proofs.section_sets.SectionSet.add.Goals as goal

pub returns : goal.returns
returns c = added c.args.self.now _ c.args.section c.in_ok-insert.ensures.updates
