use Rattle.std.proofs.Common.{◌∙◌, List, ℕ, ap, subst, sym}
use Rattle.std.proofs.lemmas.Bool.{false≢true}
use Rattle.check_load.specs.Views.{loaded_views}
use Rattle.judge_model.specs.Links.{framed_of, objects_of}
use Rattle.link_fields.specs.Parts.{Parts, parts_of}
use Rattle.link_fields.specs.Rests.{kept_in}
use Rattle.frame_judge.specs.Tables.{IsListRead}
use Rattle.frame_judge.proofs.RightLaws.{all_right, same_list, same_right}
use Rattle.frame_judge.proofs.TableLaws.{list_read}
use Rattle.frame_judge.proofs.right.is_list_right.Goals as goal

pub returns-then-not-branch-clause-right : goal.returns-then-not-branch-clause-right
returns-then-not-branch-clause-right c = λ l parts are framed lines drops areas list.
    let cert = l.certificate in
    let a = c.args in
    let os = loaded_views c.objects-objects.result.now in
    let image = ap (λ (q : Parts). q.image) parts ∙ sym (ap (λ (q : Parts). q.image) c.parts.view_is) in
    let objects = ap (λ (q : Parts). q.objects) parts ∙ sym (c.objects-objects.ensures ∙ ap (λ (q : Parts). q.objects) c.parts.view_is) in
    let same =
    same_list l.image c.parts.inside.image.now (framed_of l) a.framed.now (objects_of l) os cert.drops a.drops.now cert.frames a.lines.now cert.areas a.areas.now
    cert.list a.list image framed objects drops lines areas list in
    (λ e. absurd (false≢true e), λ h. absurd (false≢true (sym c.if-not-branch.true ∙ c.in_ok-has_right_list.ensures.1 (same.0 h.list))))

pub returns-clause-right : goal.returns-clause-right
returns-clause-right c = λ l parts are framed lines drops areas list.
    let cert = l.certificate in
    let a = c.args in
    let os = loaded_views c.objects-objects.result.now in
    let image = ap (λ (q : Parts). q.image) parts ∙ sym (ap (λ (q : Parts). q.image) c.parts.view_is) in
    let objects = ap (λ (q : Parts). q.objects) parts ∙ sym (c.objects-objects.ensures ∙ ap (λ (q : Parts). q.objects) c.parts.view_is) in
    let same =
    same_list l.image c.parts.inside.image.now (framed_of l) a.framed.now (objects_of l) os cert.drops a.drops.now cert.frames a.lines.now cert.areas a.areas.now
    cert.list a.list image framed objects drops lines areas list in
    let fields = same_right (parts_of l) a.parts.now a.taken.now (framed_of l) a.framed.now cert.frames a.lines.now cert.drops a.drops.now parts framed lines drops in
    let all = all_right l a.taken.now in (
      λ t. record {
        list = same.1 (c.in_ok-has_right_list.ensures.0 c.if-not-branch.false);
        fields = all.0 (fields.1 (c.are_list_fields_right.ensures.0 t));
      },
      λ h. c.are_list_fields_right.ensures.1 (fields.0 (all.1 h.fields)),
    )

pub returns-clause-read : goal.returns-clause-read
returns-clause-read c = λ t.
    let a = c.args in
    let os = loaded_views c.objects-objects.result.now in
    subst (λ (i : List ℕ). IsListRead i a.list) (ap (λ (q : Parts). q.image) c.parts.view_is)
    (list_read c.parts.inside.image.now a.framed.now (kept_in a.drops.now os) a.lines.now a.areas.now a.list
    (c.in_ok-has_right_list.ensures.0 c.if-not-branch.false))
