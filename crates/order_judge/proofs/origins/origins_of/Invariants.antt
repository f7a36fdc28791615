use Rattle.std.proofs.Common.{◌≡◌, ◌++◌, drop, map}
use Rattle.check_load.specs.Views.{loaded_views}
use Rattle.judge_model.specs.Loaded.{origin_of}
use Rattle.order_judge.specs.Origins.{origin_of_pair}
use Rattle.order_judge.proofs.origins.origins_of.Given as goal

abbrev pub invariant-loop-object : goal.invariant-loop-object
invariant-loop-object l =
    map origin_of_pair l.origins.items ++ map origin_of (loaded_views (drop l.object-index l.objects)) ≡ map origin_of (loaded_views l.objects)
