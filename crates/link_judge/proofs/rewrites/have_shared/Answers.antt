use Rattle.std.proofs.Common.{◌+◌, sym, ◌∙◌}
use Rattle.std.specs.List.{list_any}
use Rattle.check_load.specs.Views.{loaded_view, loaded_views}
use Rattle.elf_model.proofs.FlatRelocations.{left_of_objects, object_end}
use Rattle.elf_model.specs.Link.Relocation.{relocations, relocations_from}
use Rattle.link_fields.proofs.Lists.{object_read}
use Rattle.link_judge.proofs.SharedCode.{none_in_part, none_left, some_in_part}
use Rattle.link_judge.specs.Rewritten.{is_shared_thread_in}
use Rattle.link_judge.proofs.rewrites.have_shared.Goals as goal

pub returns-then-has_shared : goal.returns-then-has_shared
returns-then-has_shared c =
    let test = is_shared_thread_in c.args.drops.now in
    let xs = c.args.objects.now in
    let k = c.loop-k.k in
    let x = c.index-objects-k.result in
    some_in_part test (list_any test (relocations (loaded_views xs))) (left_of_objects loaded_view xs k) c.loop-k.invariant
    (relocations_from k (loaded_view x)) (left_of_objects loaded_view xs (k + 1))
    (object_read xs k x c.loop-k-test.true c.index-objects-k.is) (sym c.has_shared.ensures ∙ c.if-has_shared.true)

pub loop-k-preserved : goal.loop-k-preserved
loop-k-preserved c =
    let test = is_shared_thread_in c.args.drops.now in
    let xs = c.args.objects.now in
    let k = c.loop-k.k in
    let x = c.index-objects-k.result in
    none_in_part test (list_any test (relocations (loaded_views xs))) (left_of_objects loaded_view xs k) c.loop-k.invariant
    (relocations_from k (loaded_view x)) (left_of_objects loaded_view xs (k + 1))
    (object_read xs k x c.loop-k-test.true c.index-objects-k.is) (sym c.has_shared.ensures ∙ c.if-has_shared.false)

pub returns : goal.returns
returns c =
    let test = is_shared_thread_in c.args.drops.now in
    let xs = c.args.objects.now in
    none_left test (list_any test (relocations (loaded_views xs))) (left_of_objects loaded_view xs c.loop-k.k) c.loop-k.invariant
    (object_end loaded_view xs c.loop-k.k c.loop-k-test.false)
