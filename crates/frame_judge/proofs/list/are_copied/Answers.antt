use Rattle.std.proofs.Common.{◌∙◌, List, ℕ, length, get_or, refl, sym}
use Rattle.std.specs.Prelude.{All}
use Rattle.std.proofs.lemmas.Bool.{false≢true}
use Rattle.check_load.specs.Views.{loaded_views}
use Rattle.elf_model.specs.Link.Pieces.{Piece}
use Rattle.judge_model.specs.Frames.{IsCopiedBeside}
use Rattle.link_fields.specs.Rests.{kept_in}
use Rattle.link_fields.proofs.FieldParts.{same_fields}
use Rattle.frame_judge.proofs.PieceLaws.{bytes_there, more, stop, end}
use Rattle.frame_judge.proofs.list.are_copied.Goals as goal

pub loop-k-preserved : goal.loop-k-preserved
loop-k-preserved c =
    let P : Piece → Type 0 = IsCopiedBeside c.args.lines.now (kept_in c.args.drops.now (loaded_views c.args.objects.now)) c.args.address c.args.list.now in
    let os = loaded_views c.args.objects.now in
    let has = same_fields os os _ _ c.in_ok-row-2.row.row.items refl c.in_ok-row-2.ensures.object c.in_ok-row-2.ensures.row in (
      more c.pieces-pieces.result.now c.args.framed.now c.pieces-pieces.ensures c.loop-k.k _ (All P c.args.framed.now) P c.loop-k-test.true
          ((c.in_ok-is_copied.ensures os has).0 c.if-not-branch.false) c.loop-k.invariant.0,
      has,
    )

pub is_copied-requires-clause-section : goal.is_copied-requires-clause-section
is_copied-requires-clause-section c =
    c.index-frames-k.is
    ∙ bytes_there c.pieces-pieces.result.now c.args.framed.now c.pieces-pieces.ensures c.loop-k.k _ c.frames-frames.result.now _ c.frames-frames.ensures
    c.loop-k-test.true

pub returns-then-not-branch : goal.returns-then-not-branch
returns-then-not-branch c =
    let P : Piece → Type 0 = IsCopiedBeside c.args.lines.now (kept_in c.args.drops.now (loaded_views c.args.objects.now)) c.args.address c.args.list.now in
    let os = loaded_views c.args.objects.now in
    let has = same_fields os os _ _ c.in_ok-row-2.row.row.items refl c.in_ok-row-2.ensures.object c.in_ok-row-2.ensures.row in (
      λ e. absurd (false≢true e),
      λ all. absurd
          (stop c.pieces-pieces.result.now c.args.framed.now c.pieces-pieces.ensures c.loop-k.k _ (All P c.args.framed.now) P c.loop-k-test.true
          (λ h. false≢true (sym c.if-not-branch.true ∙ (c.in_ok-is_copied.ensures os has).1 h)) c.loop-k.invariant.0 all),
    )

pub returns : goal.returns
returns c =
    let P : Piece → Type 0 = IsCopiedBeside c.args.lines.now (kept_in c.args.drops.now (loaded_views c.args.objects.now)) c.args.address c.args.list.now in (
      λ e. end c.pieces-pieces.result.now c.args.framed.now c.pieces-pieces.ensures c.loop-k.k (All P c.args.framed.now) P c.loop-k-test.false c.loop-k.invariant.0,
      λ all. refl,
    )
