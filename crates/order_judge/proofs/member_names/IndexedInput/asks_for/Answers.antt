use Rattle.std.proofs.Common.{◌≡◌, ap, false, subst, sym, true, ◌∙◌}
use Rattle.std.specs.Prelude.{◌↔◌, Any, IsTrue, filter}
use Rattle.elf_model.specs.Inputs.Opening.{Opened, archive_entries}
use Rattle.check_load.specs.Loaders.{loaded}
use Rattle.judge_model.specs.Loaded.{is_named_by}
use Rattle.order_judge.specs.MemberNames.{IsAskedFor, is_at, is_name_needed}
use Rattle.order_judge.specs.declared.member_names.MemberName.{MemberName}
use Rattle.order_judge.proofs.NameLaws.{asked_by}
use Rattle.order_judge.proofs.member_names.IndexedInput.asks_for.Goals as goal

pub returns : goal.returns
returns c =
    let plan = c.args.loader.now.plan.now in
    let before = loaded c.args.loader.now in
    let names = c.self.inside.names.items in
    let here : c.names_at.result.now ≡ filter (is_at c.args.offset) names = c.names_at.ensures ∙ ap (filter (is_at c.args.offset)) c.deref.ensures.value in
    let item = c.self.inside.input.now in
    let unnamed : is_named_by item ≡ false = sym c.is_named_by.ensures ∙ c.if-is_named_by.false in
    let both = asked_by plan before c.args.offset names (archive_entries item.bytes) (c.self.invariant.entries unnamed) in
    let Needs : MemberName → Type 0 = λ n. is_name_needed plan before n ≡ true in
    subst (λ (o : Opened). IsTrue c.is_one_needed.result ↔ IsAskedFor plan before c.args.offset o) c.self.view_is (
      λ t named. both.0 (subst (Any Needs) here (c.is_one_needed.ensures.0 t)),
      λ asked. c.is_one_needed.ensures.1 (subst (Any Needs) (sym here) (both.1 (asked unnamed))),
    )
