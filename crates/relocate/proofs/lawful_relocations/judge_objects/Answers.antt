use Rattle.std.proofs.Common.{◌≡◌, ◌+◌, ◌∙◌, List, Some, ap, drop, map, option_map, subst, sym}
use Rattle.std.specs.List.{slice_get}
use Rattle.std.proofs.lemmas.Option.{slice_get-get_or, slice_get-map}
use Rattle.search.specs.declared.loaded.LoadedObject as code
use Rattle.std.proofs.lemmas.Result.{err_from_is_err_and}
use Rattle.elf_model.proofs.FlatRelocations.{left_of_objects}
use Rattle.elf_model.specs.Link.Loading.{LoadedObject}
use Rattle.elf_model.specs.Link.Relocation.{relocations, relocations_from}
use Rattle.search.specs.Views.{loaded_view, loaded_views}
use Rattle.relocate.proofs.Judged.{exit_fails, remains_all, remains_fail, remains_part}
use Rattle.elf_model.proofs.RelocationFields.{objects_apart}
use Rattle.got_tls.proofs.LoadedObjects.{next_relocations}
use Rattle.got_tls.specs.Asking.{Wants, nothing, with_relocations}
use Rattle.got_tls.specs.AskedViews.{wants}
use Rattle.got_tls.proofs.AskedOnce.{objects_kept, taken}
use Rattle.relocate.specs.References.{AreLawful, RelocationsFail}
use Rattle.relocate.proofs.lawful_relocations.judge_objects.Goals as goal

pub returns-in_err-judge_object-clause-fault : goal.returns-in_err-judge_object-clause-fault
returns-in_err-judge_object-clause-fault c =
    let xs = c.args.objects.now in
    let L = loaded_views xs in
    let k = c.loop-k.k in
    let o = loaded_view c.index-objects-k.result in
    let e = c.in_err-judge_object.field-0.0 in
    exit_fails L (relocations L) c.from_residual-in_err-judge_object.result e (err_from_is_err_and c.from_residual-in_err-judge_object.result c.from_residual-in_err-judge_object.ensures.1)
    (remains_fail L (relocations L) (left_of_objects loaded_view xs k) (relocations_from k o) (left_of_objects loaded_view xs (k + 1)) e
    (next_relocations xs k c.index-objects-k.result c.loop-k-test.true c.index-objects-k.is)
    (subst (λ (os : List LoadedObject). RelocationsFail os (relocations_from k o) e) c.requires.resolved c.in_err-judge_object.ensures.fault)
    c.loop-k.invariant.remains)

pub loop-k-preserved : goal.loop-k-preserved
loop-k-preserved c =
    let xs = c.args.objects.now in
    let L = loaded_views xs in
    let k = c.loop-k.k in
    let o = loaded_view c.index-objects-k.result in
    let parts = next_relocations xs k c.index-objects-k.result c.loop-k-test.true c.index-objects-k.is in
    record {
      asked =
          taken L (wants c.loop-k.asked) (wants c.judge_object.new.asked) (with_relocations L (nothing L) (relocations L)) (relocations_from k o)
          (left_of_objects loaded_view xs (k + 1)) (left_of_objects loaded_view xs k)
          (subst (λ (os : List LoadedObject). wants c.judge_object.new.asked ≡ with_relocations os (wants c.loop-k.asked) (relocations_from k o)) c.requires.resolved c.in_ok-judge_object.ensures.asked)
          parts c.loop-k.invariant.asked;
      remains =
          remains_part L (relocations L) (left_of_objects loaded_view xs k) (relocations_from k o) (left_of_objects loaded_view xs (k + 1)) parts
          (subst (λ (os : List LoadedObject). AreLawful os (relocations_from k o)) c.requires.resolved c.in_ok-judge_object.ensures.lawful)
          (objects_apart k o (map loaded_view (drop (k + 1) xs))) c.loop-k.invariant.remains;
    }

pub judge_object-requires-clause-here : goal.judge_object-requires-clause-here
judge_object-requires-clause-here c =
    ap (λ (L : List LoadedObject). slice_get L c.loop-k.k) c.requires.resolved
    ∙ slice_get-map loaded_view c.args.objects.now c.loop-k.k
    ∙ ap (option_map loaded_view) (slice_get-get_or c.args.objects.now c.loop-k.k c.index-objects-k.result c.loop-k-test.true)
    ∙ ap (λ (x : code.LoadedObject). Some (loaded_view x)) (sym c.index-objects-k.is)

pub loop-k-init : goal.loop-k-init
loop-k-init c =
    let L = loaded_views c.args.objects.now in
    record {
      asked = ap (λ (w : Wants). with_relocations L w (relocations L)) (c.in_ok-asked.ensures ∙ ap nothing c.requires.all);
      remains = remains_all L (relocations L);
    }

pub judge_object-requires-clause-same : goal.judge_object-requires-clause-same
judge_object-requires-clause-same c =
    let L = loaded_views c.args.objects.now in
    objects_kept L (wants c.loop-k.asked) (nothing L) (left_of_objects loaded_view c.args.objects.now c.loop-k.k) (relocations L) c.loop-k.invariant.asked
    ∙ sym c.requires.resolved
