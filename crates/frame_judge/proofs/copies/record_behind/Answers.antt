use Rattle.std.proofs.Common.{◌≡◌, ◌==◌, ◌∙◌, ℕ, List, Option, sym, subst, arith}
use Rattle.std.specs.Prelude.{Contains, IfSome}
use Rattle.judge_model.specs.Frames.{records_of}
use Rattle.judge_model.specs.declared.frame_record.FrameRecord.{FrameRecord}
use Rattle.frame_judge.proofs.ListLaws.{far_none, there_of}
use Rattle.frame_judge.proofs.copies.record_behind.Goals as goal

pub returns-then-offset-clause-exact : goal.returns-then-offset-clause-exact
returns-then-offset-clause-exact c =
    let high = c.if-offset.true in
    sym (far_none c.args.list.now c.args.offset c.records-records.result.now c.records-records.ensures.records c.records-records.ensures.order
    c.records-records.ensures.fits (omega (arith, high)))

pub returns-clause-there : goal.returns-clause-there
returns-clause-there c = there_of c.args.offset (records_of c.args.list.now) _ c.find.ensures
