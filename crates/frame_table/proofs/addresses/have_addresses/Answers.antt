use Rattle.std.proofs.Common.{List, refl, subst, sym, ◌∙◌, arith}
use Rattle.std.specs.Prelude.{All}
use Rattle.std.proofs.lemmas.Bool.{false≢true}
use Rattle.elf_model.proofs.Rests.{Left, all_end, all_more, all_stop}
use Rattle.judge_model.specs.Frames.{HasAddress, records_of}
use Rattle.judge_model.specs.declared.frame_record.FrameRecord.{FrameRecord}
use Rattle.frame_table.proofs.addresses.have_addresses.Goals as goal

pub loop-frame-init : goal.loop-frame-init
loop-frame-init c =
    let P : FrameRecord → Type 0 = HasAddress c.args.list.now in
    subst (λ (xs : List FrameRecord). Left (All P (records_of c.args.list.now)) (All P xs)) (sym c.records-frame-items.ensures.records)
    (λ all. all, λ all. all)

pub loop-frame-preserved : goal.loop-frame-preserved
loop-frame-preserved c =
    let P : FrameRecord → Type 0 = HasAddress c.args.list.now in
    all_more (All P (records_of c.args.list.now)) P c.records-frame-items.result.now c.loop-frame.frame-index _ c.loop-frame-test.true
    (c.has_address.ensures.0 c.if-not-has_address.false) c.loop-frame.invariant

pub returns-then-not-has_address : goal.returns-then-not-has_address
returns-then-not-has_address c =
    let P : FrameRecord → Type 0 = HasAddress c.args.list.now in (
      λ e. absurd (false≢true e),
      λ all. absurd
          (all_stop (All P (records_of c.args.list.now)) P c.records-frame-items.result.now c.loop-frame.frame-index _ c.loop-frame-test.true
          (λ h. false≢true (sym c.if-not-has_address.true ∙ c.has_address.ensures.1 h)) c.loop-frame.invariant all),
    )

pub returns : goal.returns
returns c =
    let P : FrameRecord → Type 0 = HasAddress c.args.list.now in
    let past = c.loop-frame-test.false in
    (λ e. all_end (All P (records_of c.args.list.now)) P c.records-frame-items.result.now c.loop-frame.frame-index (omega (arith, past)) c.loop-frame.invariant, λ all. refl)
