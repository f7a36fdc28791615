use Rattle.std.proofs.Common.{◌≡◌, ◌∙◌, List, ℕ, subst, sym}
use Rattle.std.proofs.lemmas.Bool.{false≢true}
use Rattle.call_frames.specs.Alike.{IsAlike}
use Rattle.check_link.specs.Views.{piece_view}
use Rattle.judge_model.specs.Frames.{IsCut}
use Rattle.memory_judge.specs.Rests.{IsBeside}
use Rattle.frame_judge.proofs.copies.is_copy.Goals as goal

pub returns : goal.returns
returns c =
    let p = piece_view c.args.piece.now in
    let r = c.args.record.now in
    let t = c.args.copy.now in
    let fields = c.args.fields.now in
    let alike = subst (λ (bs : List ℕ). IsAlike bs c.args.list.now fields r t) c.requires.section in
    let back = subst (λ (bs : List ℕ). IsAlike bs c.args.list.now fields r t) (sym c.requires.section) in (
      λ is.
          let own = alike (c.is_alike.ensures.0 is) in
          record {
            number = c.is_number_right.ensures.0 c.if-not-is_number_right.false;
            begins = c.begins_right.ensures.0 c.if-not-begins_right.false;
            same = own.same;
            zeros = own.zeros;
            cut = λ short.
                subst (λ (bs : List ℕ). IsCut (IsBeside fields) bs r t.size) c.requires.section
                (c.is_cut_if_short.ensures.0 c.if-not-is_cut_if_short.false short);
          },
      λ copy. c.is_alike.ensures.1 (back (record { same = copy.same; zeros = copy.zeros })),
    )

pub returns-then-not-is_cut_if_short : goal.returns-then-not-is_cut_if_short
returns-then-not-is_cut_if_short c =
    let fields = c.args.fields.now in (
      λ t. absurd (false≢true t),
      λ copy. absurd
          (false≢true
          (sym c.if-not-is_cut_if_short.true ∙ c.is_cut_if_short.ensures.1 (λ short.
          subst (λ (bs : List ℕ). IsCut (IsBeside fields) bs c.args.record.now c.args.copy.now.size) (sym c.requires.section) (copy.cut short)))),
    )
