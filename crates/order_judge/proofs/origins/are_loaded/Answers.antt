use Rattle.std.proofs.Common.{map}
use Rattle.elf_model.specs.Inputs.Files.{files_of}
use Rattle.elf_model.specs.Link.Loading.{loaded_objects}
use Rattle.judge_model.specs.Loaded.{origin_of}
use Rattle.order_judge.specs.Origins.{origin_of_line}
use Rattle.order_judge.proofs.OrderLaws.{same_origins}
use Rattle.order_judge.proofs.origins.are_loaded.Goals as goal

pub returns-clause-same : goal.returns-clause-same
returns-clause-same c =
    let both =
    same_origins c.in_ok-loaded.loaded.items c.in_ok-named.named.items (map origin_of (loaded_objects (files_of c.args.files.now) c.args.plan.now))
    (map origin_of_line c.args.rows.now) c.in_ok-loaded.ensures.origins c.in_ok-named.ensures in
    (λ t. both.0 (c.in_ok-same.ensures.0 t), λ p. c.in_ok-same.ensures.1 (both.1 p))
