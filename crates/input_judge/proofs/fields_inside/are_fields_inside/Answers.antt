use Rattle.check_load.specs.Views.{loaded_views}
use Rattle.input_judge.proofs.InsideLaws.{all_inside}
use Rattle.input_judge.proofs.fields_inside.are_fields_inside.Goals as goal

pub returns : goal.returns
returns c = λ l same dropped.
    let both = all_inside l (loaded_views c.args.objects.now) c.args.drops.now same dropped in
    (λ t. both.0 (c.are_all_inside.ensures.0 t), λ all. c.are_all_inside.ensures.1 (both.1 all))
