use Rattle.std.proofs.Common.{◌+◌, refl, sym, ◌∙◌}
use Rattle.std.specs.Prelude.{All}
use Rattle.std.proofs.lemmas.Bool.{false≢true}
use Rattle.check_load.specs.Views.{loaded_view, loaded_views}
use Rattle.elf_model.proofs.FlatRelocations.{left_of_objects, object_end}
use Rattle.elf_model.specs.Link.Relocation.{relocations, relocations_from}
use Rattle.link_fields.proofs.Lists.{left_end, object_read, part_more, part_stop}
use Rattle.frame_judge.specs.Plain.{IsPlainUnlessOut}
use Rattle.frame_judge.proofs.plain_relocations.are_all_plain.Goals as goal

pub loop-k-preserved : goal.loop-k-preserved
loop-k-preserved c =
    let P = IsPlainUnlessOut c.args.framed.now c.args.drops.now in
    let xs = c.args.objects.now in
    let k = c.loop-k.k in
    let x = c.index-objects-k.result in
    part_more P (All P (relocations (loaded_views xs))) (left_of_objects loaded_view xs k) (relocations_from k (loaded_view x))
    (left_of_objects loaded_view xs (k + 1)) (object_read xs k x c.loop-k-test.true c.index-objects-k.is)
    (c.are_own_plain.ensures.0 c.if-not-are_own_plain.false) c.loop-k.invariant

pub returns-then-not-are_own_plain : goal.returns-then-not-are_own_plain
returns-then-not-are_own_plain c =
    let P = IsPlainUnlessOut c.args.framed.now c.args.drops.now in
    let xs = c.args.objects.now in
    let k = c.loop-k.k in
    let x = c.index-objects-k.result in (
      λ e. absurd (false≢true e),
      λ all. absurd
          (part_stop P (All P (relocations (loaded_views xs))) (left_of_objects loaded_view xs k) (relocations_from k (loaded_view x))
          (left_of_objects loaded_view xs (k + 1)) (object_read xs k x c.loop-k-test.true c.index-objects-k.is)
          (λ h. false≢true (sym c.if-not-are_own_plain.true ∙ c.are_own_plain.ensures.1 h)) c.loop-k.invariant all),
    )

pub returns : goal.returns
returns c =
    let P = IsPlainUnlessOut c.args.framed.now c.args.drops.now in
    let xs = c.args.objects.now in (
      λ e.
          left_end P (All P (relocations (loaded_views xs))) (left_of_objects loaded_view xs c.loop-k.k)
          (object_end loaded_view xs c.loop-k.k c.loop-k-test.false) c.loop-k.invariant,
      λ all. refl,
    )
