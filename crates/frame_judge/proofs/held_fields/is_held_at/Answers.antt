use Rattle.std.proofs.Common.{◌≡◌, ◌==◌, ◌∙◌, Option, Some, ap, subst, sym}
use Rattle.std.specs.Prelude.{◌↔◌, IsSomeAnd, IsTrue, find, option_map}
use Rattle.elf_model.specs.Link.Relocation.{Kind}
use Rattle.field_judge.specs.Kinds.{kind_view}
use Rattle.field_judge.specs.declared.kinds.Kind as code
use Rattle.judge_model.specs.Fields.{foreign_kinds}
use Rattle.frame_judge.specs.Held.{IsHeldBy, moved_to}
use Rattle.frame_judge.proofs.held_fields.is_held_at.Goals as goal

pub returns-in-Some : goal.returns-in-Some
returns-in-Some c = λ g given.
    let found : Some (kind_view c.in-Some.kind) ≡ find (λ k. k.number == c.args.number) foreign_kinds =
    sym (ap (option_map kind_view) c.in-Some.is) ∙ c.foreign_kind.ensures.kind in
    subst (λ (o : Option Kind). IsTrue c.is_kind_held.result ↔ IsSomeAnd o (IsHeldBy c.args.parts.now.image c.args.taken.now (moved_to g c.args.at))) found
    (c.is_kind_held.ensures g given)
