use Rattle.std.proofs.Common.{◌∙◌, ap, sym}
use Rattle.std.proofs.lemmas.Result.{IfOk-weaker}
use Rattle.link_fields.specs.Parts.{Parts}
use Rattle.frame_judge.proofs.TableLaws.{same_tables}
use Rattle.frame_judge.proofs.right.are_frames_right.Goals as goal

pub returns : goal.returns
returns c = λ l parts are framed lines drops areas list tables.
    let a = c.args in
    let image = ap (λ (q : Parts). q.image) parts ∙ sym (ap (λ (q : Parts). q.image) c.parts.view_is) in
    let same = same_tables l c.parts.inside.image.now a.areas.now a.list a.tables image areas list tables in
    let first = (c.in_ok-is_list_right.ensures.right l parts are framed lines drops areas list).0 c.if-not-branch.false in
    IfOk-weaker c.are_tables_right.result _ _ (λ b h. (λ t. (first, same.0 (h.0 t)), λ r. h.1 (same.1 r.1))) c.are_tables_right.ensures
