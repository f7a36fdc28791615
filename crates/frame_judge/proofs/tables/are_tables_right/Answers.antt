use Rattle.std.proofs.Common.{◌≡◌, ◌∙◌, ℕ, List, Option, Some, true, ap, subst, sym}
use Rattle.std.specs.Prelude.{SomeIff, is_some}
use Rattle.std.proofs.lemmas.Result.{IfOk-weaker}
use Rattle.judge_model.specs.FrameTables.{list_bytes}
use Rattle.judge_model.specs.Frames.{frame_records}
use Rattle.frame_judge.proofs.TableLaws.{tables_right}
use Rattle.frame_judge.proofs.tables.are_tables_right.Goals as goal

pub returns : goal.returns
returns c =
    let a = c.args in
    let bytes = c.in-Some.bytes.now in
    let read = subst (λ (o : Option (List ℕ)). SomeIff o (is_some (frame_records bytes) ≡ true) bytes) c.in-Some-2.is c.in_ok-frames.ensures in
    let is : list_bytes a.image.now a.list ≡ Some c.in-Some-2.frames = sym c.in-Some.ensures ∙ ap Some (sym read.1) in
    let same = tables_right a.image.now a.areas.now a.list c.in-Some-2.frames is a.asked in
    IfOk-weaker c.are_tables_of.result _ _ (λ b h. (λ t. same.0 (h.0 t), λ r. h.1 (same.1 r))) c.are_tables_of.ensures
