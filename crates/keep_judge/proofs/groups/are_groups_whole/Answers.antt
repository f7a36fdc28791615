use Rattle.std.proofs.Common.{List, refl, subst, sym, ◌∙◌}
use Rattle.std.specs.Prelude.{All}
use Rattle.std.proofs.lemmas.Bool.{false≢true}
use Rattle.check_load.specs.Views.{loaded_view}
use Rattle.elf_model.proofs.Rests.{all_end, all_more, all_stop}
use Rattle.elf_model.specs.Inputs.ObjectFile.{Group}
use Rattle.keep_judge.specs.Collected.{IsWholeIn}
use Rattle.keep_judge.proofs.groups.are_groups_whole.Goals as goal

pub loop-group-preserved : goal.loop-group-preserved
loop-group-preserved c =
    let P = IsWholeIn c.args.drops.now c.args.number (loaded_view c.args.loaded.now) in
    let xs : List Group = c.groups-groups.result.now in
    all_more (All P xs) P xs c.loop-group.group-index c.group-item.result c.loop-group-test.true
    (subst P c.group-item.is (c.is_whole.ensures.0 c.if-not-is_whole.false)) c.loop-group.invariant

pub returns-then-not-is_whole : goal.returns-then-not-is_whole
returns-then-not-is_whole c =
    let P = IsWholeIn c.args.drops.now c.args.number (loaded_view c.args.loaded.now) in
    let xs : List Group = c.groups-groups.result.now in (
      λ e. absurd (false≢true e),
      λ all. absurd
          (all_stop (All P xs) P xs c.loop-group.group-index c.group-item.result c.loop-group-test.true
          (λ h. false≢true (sym c.if-not-is_whole.true ∙ c.is_whole.ensures.1 (subst P (sym c.group-item.is) h))) c.loop-group.invariant
          (subst (All P) (sym c.groups-groups.ensures.exact) all)),
    )

pub returns : goal.returns
returns c =
    let P = IsWholeIn c.args.drops.now c.args.number (loaded_view c.args.loaded.now) in
    let xs : List Group = c.groups-groups.result.now in (
      λ e. subst (All P) c.groups-groups.ensures.exact (all_end (All P xs) P xs c.loop-group.group-index c.loop-group-test.false c.loop-group.invariant),
      λ all. refl,
    )
