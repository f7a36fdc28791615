use Rattle.std.proofs.Common.{◌≡◌, refl, sym}
use Rattle.check_load.specs.Views.{loaded_views}
use Rattle.judge_model.specs.Links.{objects_of}
use Rattle.link_judge.proofs.inputs.are_fields_sound.Goals as goal

pub returns : goal.returns
returns c =
    let l = c.args.loaded.now in
    let same : objects_of l ≡ loaded_views c.objects-objects.result.now = cc in
    let inside = c.are_fields_inside.ensures l same (sym c.drops.ensures) in
    let apart = c.in_ok-are_fields_apart.ensures l same (sym c.drops-2.ensures) in
    let whole = c.in_ok-are_instructions_whole.ensures l same (sym c.drops-3.ensures) in (
      λ _. record {
        inside = inside.0 c.if-not-are_fields_inside.false;
        apart = apart.0 c.if-not-branch.false;
        whole = whole.0 c.if-not-branch-2.false;
      },
      λ _. refl,
    )
