use Rattle.std.proofs.Common.{◌∙◌, List, ℕ, subst, sym}
use Rattle.std.specs.Global.{Vec}
use Rattle.std.specs.Prelude.{◌↔◌, All}
use Rattle.std.proofs.lemmas.Result.{IfOk-weaker}
use Rattle.elf_model.specs.Link.Loading.{LoadedObject}
use Rattle.memory_judge.specs.Rests.{IsBeside}
use Rattle.memory_judge.specs.declared.rests.FieldSpan.{FieldSpan}
use Rattle.link_fields.proofs.BesideRelocations.{beside_none, kept_beside, left_out}
use Rattle.link_fields.specs.Fields.{HasFields, IsFieldOutside}
use Rattle.link_fields.specs.Rests.{IsOutside, kept_in}
use Rattle.link_fields.specs.declared.object_fields.SectionField.{SectionField}
use Rattle.link_fields.proofs.own_rests.kept_spans.Goals as goal

pub returns-then-has-clause-beside : goal.returns-then-has-clause-beside
returns-then-has-clause-beside c = λ objects k has. (
  λ b. left_out c.args.drops.now objects c.args.fields.now.object c.args.section (sym c.has.ensures ∙ c.if-has.true) k,
  λ h. subst (λ (ss : List FieldSpan). IsBeside ss k) (sym c.new.ensures.items) (beside_none k),
)

pub returns-clause-beside : goal.returns-clause-beside
returns-clause-beside c =
    let n = c.args.fields.now.object in
    let s = c.args.section in
    let row = c.args.fields.now.row.items in
    let drops = c.args.drops.now in
    IfOk-weaker c.spans_of.result (λ (v : Vec FieldSpan). (k : ℕ) → IsBeside v.items k ↔ All (IsFieldOutside s k) c.deref.result.now)
    (λ v. (objects : List LoadedObject) (k : ℕ) → HasFields objects n row → IsBeside v.items k ↔ All (IsOutside n s k) (kept_in drops objects))
    (λ v told objects k has.
    let own = subst (λ (fs : List SectionField). IsBeside v.items k ↔ All (IsFieldOutside s k) fs) c.deref.ensures.value (told k) in
    let all = has.fields s k in
    let kept = kept_beside drops objects n s (sym c.has.ensures ∙ c.if-has.false) k in
    (λ b. kept.0 (all.0 (own.0 b)), λ h. own.1 (all.1 (kept.1 h))))
    c.spans_of.ensures.beside
