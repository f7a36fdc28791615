use Rattle.std.proofs.Common.{List, ℕ, Option, subst}
use Rattle.std.specs.Prelude.{◌↔◌, IsSomeAnd, IsTrue}
use Rattle.std.proofs.lemmas.Result.{IfOk-weaker}
use Rattle.judge_model.specs.FrameTables.{IsTable}
use Rattle.frame_judge.proofs.tables.is_table_at.Goals as goal

pub returns-in-Some : goal.returns-in-Some
returns-in-Some c =
    let a = c.args in
    IfOk-weaker c.is_table.result _ _
    (λ b h. subst (λ (o : Option (List ℕ)). IsTrue b ↔ IsSomeAnd o (IsTable a.list a.frames.now a.t.now.address)) c.in-Some.ensures h)
    c.is_table.ensures
