use Rattle.std.proofs.Common.{List, ℕ, Option, subst, sym}
use Rattle.std.specs.Prelude.{◌↔◌, IsSomeAnd, IsTrue}
use Rattle.std.proofs.lemmas.Result.{IfOk-weaker}
use Rattle.check_load.specs.Views.{loaded_views}
use Rattle.judge_model.specs.Frames.{HasRightList, IsListRight}
use Rattle.judge_model.specs.declared.certificate.StretchLine.{StretchLine}
use Rattle.link_fields.specs.Rests.{kept_in}
use Rattle.frame_judge.proofs.list.has_right_list.Goals as goal

pub returns-in-Some-stretch_bytes : goal.returns-in-Some-stretch_bytes
returns-in-Some-stretch_bytes c =
    let a = c.args in
    let rs = kept_in a.drops.now (loaded_views a.objects.now) in
    let s = c.in-Some.s in
    IfOk-weaker c.is_list_right.result _ _
    (λ b h.
    subst (λ (o : Option StretchLine). IsTrue b ↔ HasRightList a.image.now a.framed.now rs a.lines.now a.areas.now o) (sym c.in-Some.is)
    (subst (λ (o : Option (List ℕ)). IsTrue b ↔ IsSomeAnd o (IsListRight a.framed.now rs a.lines.now a.areas.now s)) c.in-Some-stretch_bytes.ensures h))
    c.is_list_right.ensures
