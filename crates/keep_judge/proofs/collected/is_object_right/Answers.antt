use Rattle.std.specs.Prelude.{◌↔◌, All, IsTrue}
use Rattle.std.proofs.lemmas.Result.{IfOk-weaker}
use Rattle.check_load.specs.Views.{loaded_view}
use Rattle.elf_model.specs.Link.Relocation.{relocations_from}
use Rattle.keep_judge.specs.Collected.{IsBoundKept, IsObjectRight, has_name}
use Rattle.keep_judge.proofs.collected.is_object_right.Goals as goal

pub returns : goal.returns
returns c =
    let names = c.args.names.now in
    let drops = c.args.drops.now in
    let lost = has_name c.args.lost.now in
    let o = loaded_view c.args.loaded.now in
    IfOk-weaker c.are_bounds_kept.result
    (λ b. IsTrue b ↔ All (IsBoundKept names drops lost) (relocations_from c.args.number o))
    (λ b. IsTrue b ↔ IsObjectRight names drops lost c.args.number o)
    (λ b both. (
      λ t. record {
        pieces = c.in_ok-are_own_right.ensures.0 c.if-not-branch.false;
        groups_are = c.are_groups_whole.ensures.0 c.if-not-are_groups_whole.false;
        bounds = both.0 t;
      },
      λ w. both.1 w.bounds,
    )) c.are_bounds_kept.ensures
