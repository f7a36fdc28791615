use Rattle.std.proofs.Common.{◌+◌, List, drop, map, refl, subst, sym, ◌∙◌}
use Rattle.std.specs.Prelude.{AllPairs, filter}
use Rattle.std.proofs.lemmas.Bool.{false≢true}
use Rattle.check_load.specs.Views.{loaded_view, loaded_views}
use Rattle.elf_model.proofs.FlatRelocations.{left_of_objects, object_end}
use Rattle.elf_model.proofs.Pairs.{AllPairs-nil}
use Rattle.elf_model.specs.Link.Relocation.{Relocation, relocations}
use Rattle.judge_model.specs.Fields.{AreFieldsApart}
use Rattle.link_fields.proofs.Lists.{object_read}
use Rattle.input_judge.specs.Apart.{is_in_image}
use Rattle.input_judge.proofs.ApartLaws.{object_more, object_stop}
use Rattle.input_judge.proofs.fields_apart.are_all_apart.Goals as goal

pub loop-k-preserved : goal.loop-k-preserved
loop-k-preserved c =
    let xs = c.args.objects.now in
    let k = c.loop-k.k in
    let x = c.index-objects-k.result in
    object_more c.args.drops.now k (AllPairs AreFieldsApart (filter (is_in_image c.args.drops.now) (relocations (loaded_views xs))))
    (left_of_objects loaded_view xs k) (loaded_view x) (map loaded_view (drop (k + 1) xs)) (object_read xs k x c.loop-k-test.true c.index-objects-k.is)
    (c.in_ok-are_own_apart.ensures.0 c.if-not-branch.false) c.loop-k.invariant

pub returns-then-not-branch : goal.returns-then-not-branch
returns-then-not-branch c =
    let xs = c.args.objects.now in
    let k = c.loop-k.k in
    let x = c.index-objects-k.result in (
      λ t. absurd (false≢true t),
      λ all. absurd
          (object_stop c.args.drops.now k (AllPairs AreFieldsApart (filter (is_in_image c.args.drops.now) (relocations (loaded_views xs))))
          (left_of_objects loaded_view xs k) (loaded_view x) (map loaded_view (drop (k + 1) xs)) (object_read xs k x c.loop-k-test.true c.index-objects-k.is)
          (λ h. false≢true (sym c.if-not-branch.true ∙ c.in_ok-are_own_apart.ensures.1 h)) c.loop-k.invariant all),
    )

pub returns : goal.returns
returns c =
    let xs = c.args.objects.now in (
      λ t.
          c.loop-k.invariant.1
          (subst (λ (rs : List Relocation). AllPairs AreFieldsApart (filter (is_in_image c.args.drops.now) rs))
          (sym (object_end loaded_view xs c.loop-k.k c.loop-k-test.false)) (AllPairs-nil AreFieldsApart)),
      λ all. refl,
    )
