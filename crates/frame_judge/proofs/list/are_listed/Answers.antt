use Rattle.std.proofs.Common.{List, refl, subst, sym, ◌∙◌, arith}
use Rattle.std.specs.Prelude.{◌+◌, All, Contains}
use Rattle.std.proofs.lemmas.Bool.{false≢true}
use Rattle.elf_model.proofs.Rests.{Left, all_end, all_more, all_stop}
use Rattle.judge_model.specs.Frames.{records_of}
use Rattle.judge_model.specs.declared.frame_record.FrameRecord.{FrameRecord}
use Rattle.frame_judge.proofs.list.are_listed.Goals as goal

pub loop-record-init : goal.loop-record-init
loop-record-init c =
    let P : FrameRecord → Type 0 = λ t. Contains c.args.addresses.now (c.args.address + t.offset) in
    let rs = records_of c.args.list.now in
    subst (λ (xs : List FrameRecord). Left (All P rs) (All P xs)) (sym c.records-record-items.ensures.records) (λ all. all, λ all. all)

pub loop-record-preserved : goal.loop-record-preserved
loop-record-preserved c =
    let P : FrameRecord → Type 0 = λ t. Contains c.args.addresses.now (c.args.address + t.offset) in
    all_more (All P (records_of c.args.list.now)) P c.records-record-items.result.now c.loop-record.record-index _ c.loop-record-test.true
    (c.is_listed.ensures.0 c.if-not-is_listed.false) c.loop-record.invariant

pub returns-then-not-is_listed : goal.returns-then-not-is_listed
returns-then-not-is_listed c =
    let P : FrameRecord → Type 0 = λ t. Contains c.args.addresses.now (c.args.address + t.offset) in (
      λ e. absurd (false≢true e),
      λ all. absurd
          (all_stop (All P (records_of c.args.list.now)) P c.records-record-items.result.now c.loop-record.record-index _ c.loop-record-test.true
          (λ h. false≢true (sym c.if-not-is_listed.true ∙ c.is_listed.ensures.1 h)) c.loop-record.invariant all),
    )

pub returns : goal.returns
returns c =
    let P : FrameRecord → Type 0 = λ t. Contains c.args.addresses.now (c.args.address + t.offset) in
    let past = c.loop-record-test.false in
    (λ e. all_end (All P (records_of c.args.list.now)) P c.records-record-items.result.now c.loop-record.record-index (omega (arith, past)) c.loop-record.invariant, λ all. refl)
