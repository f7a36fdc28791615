use Rattle.std.proofs.Common.{◌≡◌, ◌==◌, ℕ, subst}
use Rattle.std.specs.Prelude.{◌↔◌, IsSomeAnd, IsTrue, find}
use Rattle.check_load.specs.KeptRelocations.{relocation_at}
use Rattle.check_load.specs.Views.{loaded_view}
use Rattle.judge_model.specs.Fields.{foreign_kinds}
use Rattle.link_fields.specs.Parts.{given}
use Rattle.frame_judge.specs.Held.{IsHeldBy, moved_to}
use Rattle.frame_judge.proofs.held_fields.is_field_held.Goals as goal

pub returns : goal.returns
returns c =
    let p = c.args.parts.now in
    let g = given p (relocation_at c.args.number (loaded_view c.args.loaded.now) c.args.relocation.now) in
    subst (λ (t : ℕ). IsTrue c.is_held_at.result ↔ IsSomeAnd (find (λ k. k.number == t) foreign_kinds) (IsHeldBy p.image c.args.taken.now (moved_to g c.args.at)))
    c.kind.ensures (c.is_held_at.ensures g c.asked_of-asked.ensures)
