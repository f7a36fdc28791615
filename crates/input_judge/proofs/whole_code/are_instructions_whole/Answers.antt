use Rattle.check_load.specs.Views.{loaded_views}
use Rattle.input_judge.proofs.WholeLaws.{all_whole}
use Rattle.input_judge.proofs.whole_code.are_instructions_whole.Goals as goal

pub returns : goal.returns
returns c = λ l same dropped.
    let both = all_whole l (loaded_views c.args.objects.now) c.args.drops.now same dropped in
    (λ t. both.0 (c.in_ok-whole.ensures.0 t), λ all. c.in_ok-whole.ensures.1 (both.1 all))
