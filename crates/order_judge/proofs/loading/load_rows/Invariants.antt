use Rattle.std.proofs.Common.{◌≡◌, drop, map}
use Rattle.elf_model.specs.Image.MapRecord.{object_row}
use Rattle.elf_model.proofs.Rests.{Left}
use Rattle.check_load.specs.Loaders.{Knows, loaded}
use Rattle.judge_model.specs.Loaded.{objects_behind}
use Rattle.order_judge.specs.Asked.{AreAskedFor}
use Rattle.order_judge.proofs.loading.load_rows.Given as goal

abbrev pub invariant-loop-row : goal.invariant-loop-row
invariant-loop-row l = record {
  known : Knows l.places l.loader;
  plan : l.loader.plan.now ≡ l.fn.loader.plan.now;
  rest :
      objects_behind l.inputs (loaded l.loader) (map object_row (drop l.row-index l.rows))
      ≡ objects_behind l.inputs (loaded l.fn.loader) (map object_row l.rows);
  asked :
      Left (AreAskedFor l.inputs l.fn.loader.plan.now (loaded l.fn.loader) (map object_row l.rows))
      (AreAskedFor l.inputs l.fn.loader.plan.now (loaded l.loader) (map object_row (drop l.row-index l.rows)));
}
