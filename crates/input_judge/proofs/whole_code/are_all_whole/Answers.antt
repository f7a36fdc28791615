use Rattle.std.proofs.Common.{◌+◌, refl, sym, ◌∙◌}
use Rattle.std.specs.Prelude.{All}
use Rattle.std.proofs.lemmas.Bool.{false≢true}
use Rattle.check_load.specs.Views.{loaded_view, loaded_views}
use Rattle.elf_model.proofs.FlatRelocations.{left_of_objects, object_end}
use Rattle.elf_model.specs.Link.Relocation.{relocations, relocations_from}
use Rattle.link_fields.proofs.Lists.{left_end, object_read, part_more, part_stop}
use Rattle.link_fields.proofs.OwnPlaces.{object_there}
use Rattle.input_judge.specs.WholeCode.{IsWholeUnlessOut}
use Rattle.input_judge.proofs.whole_code.are_all_whole.Goals as goal

pub loop-k-preserved : goal.loop-k-preserved
loop-k-preserved c =
    let xs = c.args.objects.now in
    let P = IsWholeUnlessOut (loaded_views xs) c.args.drops.now in
    let k = c.loop-k.k in
    let x = c.index-objects-k.result in
    let told = c.in_ok-are_own_whole.ensures (loaded_views xs) (object_there xs k x c.loop-k-test.true c.index-objects-k.is) in
    part_more P (All P (relocations (loaded_views xs))) (left_of_objects loaded_view xs k) (relocations_from k (loaded_view x))
    (left_of_objects loaded_view xs (k + 1)) (object_read xs k x c.loop-k-test.true c.index-objects-k.is)
    (told.0 c.if-not-branch.false) c.loop-k.invariant

pub returns-then-not-branch : goal.returns-then-not-branch
returns-then-not-branch c =
    let xs = c.args.objects.now in
    let P = IsWholeUnlessOut (loaded_views xs) c.args.drops.now in
    let k = c.loop-k.k in
    let x = c.index-objects-k.result in
    let told = c.in_ok-are_own_whole.ensures (loaded_views xs) (object_there xs k x c.loop-k-test.true c.index-objects-k.is) in (
      λ e. absurd (false≢true e),
      λ all. absurd
          (part_stop P (All P (relocations (loaded_views xs))) (left_of_objects loaded_view xs k) (relocations_from k (loaded_view x))
          (left_of_objects loaded_view xs (k + 1)) (object_read xs k x c.loop-k-test.true c.index-objects-k.is)
          (λ h. false≢true (sym c.if-not-branch.true ∙ told.1 h)) c.loop-k.invariant all),
    )

pub returns : goal.returns
returns c =
    let xs = c.args.objects.now in
    let P = IsWholeUnlessOut (loaded_views xs) c.args.drops.now in (
      λ e.
          left_end P (All P (relocations (loaded_views xs))) (left_of_objects loaded_view xs c.loop-k.k)
          (object_end loaded_view xs c.loop-k.k c.loop-k-test.false) c.loop-k.invariant,
      λ all. refl,
    )
