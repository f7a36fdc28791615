use Rattle.std.proofs.Common.{◌≡◌, List, ℕ, Option, true, subst}
use Rattle.std.specs.Prelude.{◌↔◌, IsTrue, SomeIff, is_some}
use Rattle.std.proofs.lemmas.Result.{IfOk-weaker}
use Rattle.check_load.specs.Views.{loaded_views}
use Rattle.judge_model.specs.Frames.{frame_records}
use Rattle.link_fields.specs.Rests.{kept_in}
use Rattle.frame_judge.specs.List.{AreRecordsRight}
use Rattle.frame_judge.proofs.list.is_list_right.Goals as goal

pub returns : goal.returns
returns c =
    let a = c.args in
    let bytes = a.bytes.now in
    let rs = kept_in a.drops.now (loaded_views a.objects.now) in
    let read = subst (λ (o : Option (List ℕ)). SomeIff o (is_some (frame_records bytes) ≡ true) bytes) c.in-Some.is c.in_ok-list.ensures in
    IfOk-weaker c.is_read_right.result _ _
    (λ b h.
    let h = subst (λ (xs : List ℕ). IsTrue b ↔ AreRecordsRight a.framed.now rs a.lines.now a.s.now.address xs) read.1 h in (
      λ t. let right = h.0 t in record {
        area = c.has_area.ensures.0 c.if-not-has_area.false;
        records = read.0;
        each = right.each;
        copies = right.copies;
        ended = right.ended;
      },
      λ right. h.1 (record { each = right.each; copies = right.copies; ended = right.ended }),
    ))
    c.is_read_right.ensures
