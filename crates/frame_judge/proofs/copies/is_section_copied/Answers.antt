use Rattle.std.proofs.Common.{List, ap, refl, subst, sym, ◌∙◌, arith}
use Rattle.std.specs.Prelude.{All, IfSome}
use Rattle.std.proofs.lemmas.Bool.{false≢true}
use Rattle.check_link.specs.Views.{piece_view}
use Rattle.elf_model.proofs.Rests.{Left, all_end, all_more, all_stop}
use Rattle.judge_model.specs.Certificates.{merged_at}
use Rattle.judge_model.specs.Frames.{HasCopyAt, records_of}
use Rattle.judge_model.specs.declared.frame_record.FrameRecord.{FrameRecord}
use Rattle.memory_judge.specs.Rests.{IsBeside}
use Rattle.frame_judge.proofs.copies.is_section_copied.Goals as goal

pub loop-record-init : goal.loop-record-init
loop-record-init c =
    let p = piece_view c.args.piece.now in
    let P : FrameRecord → Type 0 = λ r. IfSome (merged_at c.args.lines.now p.object p.section r.offset) (HasCopyAt c.args.lines.now (IsBeside c.args.fields.now) c.args.address c.args.list.now p r) in
    subst (λ (xs : List FrameRecord). Left (All P (records_of p.bytes)) (All P xs))
    (sym (c.records-record-items.ensures.records ∙ ap records_of c.requires.section)) (λ all. all, λ all. all)

pub loop-record-preserved : goal.loop-record-preserved
loop-record-preserved c =
    let p = piece_view c.args.piece.now in
    let P : FrameRecord → Type 0 = λ r. IfSome (merged_at c.args.lines.now p.object p.section r.offset) (HasCopyAt c.args.lines.now (IsBeside c.args.fields.now) c.args.address c.args.list.now p r) in
    all_more (All P (records_of p.bytes)) P c.records-record-items.result.now c.loop-record.record-index _ c.loop-record-test.true
    (c.is_record_copied.ensures.0 c.if-not-is_record_copied.false) c.loop-record.invariant

pub returns-then-not-is_record_copied : goal.returns-then-not-is_record_copied
returns-then-not-is_record_copied c =
    let p = piece_view c.args.piece.now in
    let P : FrameRecord → Type 0 = λ r. IfSome (merged_at c.args.lines.now p.object p.section r.offset) (HasCopyAt c.args.lines.now (IsBeside c.args.fields.now) c.args.address c.args.list.now p r) in (
      λ e. absurd (false≢true e),
      λ all. absurd
          (all_stop (All P (records_of p.bytes)) P c.records-record-items.result.now c.loop-record.record-index _ c.loop-record-test.true
          (λ h. false≢true (sym c.if-not-is_record_copied.true ∙ c.is_record_copied.ensures.1 h)) c.loop-record.invariant all),
    )

pub returns : goal.returns
returns c =
    let p = piece_view c.args.piece.now in
    let P : FrameRecord → Type 0 = λ r. IfSome (merged_at c.args.lines.now p.object p.section r.offset) (HasCopyAt c.args.lines.now (IsBeside c.args.fields.now) c.args.address c.args.list.now p r) in
    let past = c.loop-record-test.false in
    (λ e. all_end (All P (records_of p.bytes)) P c.records-record-items.result.now c.loop-record.record-index (omega (arith, past)) c.loop-record.invariant, λ all. refl)
