use Rattle.judge_model.specs.Frames.{records_of}
use Rattle.frame_table.proofs.Records.{there_of}
use Rattle.frame_table.proofs.rows.record_with.Goals as goal

pub returns-clause-there : goal.returns-clause-there
returns-clause-there c = there_of c.args.offset (records_of c.args.list.now) c.find.result c.find.ensures
