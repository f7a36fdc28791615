use Rattle.std.proofs.Common.{◌≡◌, ◌∙◌, List, ℕ, ap, subst, sym}
use Rattle.std.specs.Prelude.{◌↔◌, All}
use Rattle.check_link.specs.Views.{piece_view}
use Rattle.judge_model.specs.Frames.{IsBesidePlaces, IsOutside}
use Rattle.link_fields.specs.Rests.{kept_in}
use Rattle.memory_judge.specs.Rests.{IsBeside}
use Rattle.memory_judge.specs.declared.rests.FieldSpan.{FieldSpan}
use Rattle.frame_judge.proofs.ListLaws.{copied}
use Rattle.frame_judge.proofs.list.is_copied.Goals as goal

pub returns : goal.returns
returns c = λ objects has.
    let p = piece_view c.args.piece.now in
    let lines = c.args.lines.now in
    let fields = c.new-fields.ensures ∙ c.deref.ensures.value in
    let same : (k : ℕ) → IsBeside c.new-fields.result k ↔ IsBesidePlaces (kept_in c.args.drops.now objects) p k =
    λ k. subst (λ (ss : List FieldSpan). IsBeside ss k ↔ IsBesidePlaces (kept_in c.args.drops.now objects) p k) (sym fields)
    (subst (λ (n : ℕ). IsBeside c.in_ok-spans.spans.items k ↔ All (IsOutside n p.section k) (kept_in c.args.drops.now objects)) c.requires.object
    (c.in_ok-spans.ensures.beside objects k has)) in
    let back : (k : ℕ) → IsBesidePlaces (kept_in c.args.drops.now objects) p k ↔ IsBeside c.new-fields.result k = λ k. ((same k).1, (same k).0) in (
      λ t. copied lines (IsBeside c.new-fields.result) (IsBesidePlaces (kept_in c.args.drops.now objects) p) same p c.args.address c.args.list.now (c.is_section_copied.ensures.0 t),
      λ h. c.is_section_copied.ensures.1 (copied lines (IsBesidePlaces (kept_in c.args.drops.now objects) p) (IsBeside c.new-fields.result) back p c.args.address c.args.list.now h),
    )
