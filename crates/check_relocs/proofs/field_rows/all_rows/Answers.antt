use Rattle.std.proofs.Common.{◌≡◌, ◌+◌, ◌∷◌, ◌∙◌, [], ℕ, List, ap, drop, get_or, length, map, refl, subst, sym, arith}
use Rattle.std.specs.Global.{Vec}
use Rattle.std.proofs.lemmas.Bool.{false≢true}
use Rattle.std.proofs.lemmas.List.{get_or-map, length-append}
use Rattle.elf_model.proofs.FlatRelocations.{left_of_objects, object_end}
use Rattle.elf_model.specs.Link.Loading.{LoadedObject}
use Rattle.elf_model.specs.Link.Relocation.{relocations, relocations_from}
use Rattle.check_relocs.specs.Fields.{AreRight, IsRowOf}
use Rattle.check_load.specs.Views.{loaded_view}
use Rattle.check_load.specs.declared.loaded.Loaded.{Loaded}
use Rattle.check_relocs.specs.declared.fields.Field.{Field}
use Rattle.check_relocs.proofs.ByIndex.{by_index_more}
use Rattle.elf_model.proofs.RelocationFields.{objects_apart}
use Rattle.check_relocs.proofs.Noted.{element_there}
use Rattle.check_relocs.proofs.ObjectFields.{object_read}
use Rattle.check_relocs.proofs.RightParts.{right_end, right_more, right_stop}
use Rattle.check_relocs.proofs.field_rows.all_rows.Goals as goal

pub returns-in_default-clause-right : goal.returns-in_default-clause-right
returns-in_default-clause-right c =
    let xs = c.objects-objects.result.now in
    let L = c.args.bindings.now.objects in
    let ps = c.args.bindings.now.places in
    let k = c.loop-k.k in
    let x = c.index-objects-k.result in
    let here = relocations_from k (loaded_view x) in
    let parts = object_read xs k x c.loop-k-test.true c.index-objects-k.is in
    let r = rw c.in_default.is at c.in_ok-row.ensures.right in (
      λ e. absurd (false≢true e),
      λ a. absurd
          (right_stop L ps (AreRight L ps (relocations L)) (left_of_objects loaded_view xs k) here (left_of_objects loaded_view xs (k + 1)) parts
          (λ h. false≢true (r.1 h)) c.loop-k.invariant.right a),
    )

pub returns-clause-right : goal.returns-clause-right
returns-clause-right c =
    let xs = c.objects-objects.result.now in
    let L = c.args.bindings.now.objects in
    let ps = c.args.bindings.now.places in (
      λ e. right_end L ps (AreRight L ps (relocations L)) (left_of_objects loaded_view xs c.loop-k.k)
          (object_end loaded_view xs c.loop-k.k c.loop-k-test.false) c.loop-k.invariant.right,
      λ a. refl,
    )

pub loop-k-preserved : goal.loop-k-preserved
loop-k-preserved c =
    let xs = c.objects-objects.result.now in
    let L = c.args.bindings.now.objects in
    let ps = c.args.bindings.now.places in
    let k = c.loop-k.k in
    let x = c.index-objects-k.result in
    let here = relocations_from k (loaded_view x) in
    let right = rw c.in-Some.is at c.in_ok-row.ensures.right in
    let row = rw c.in-Some.is at c.in_ok-row.ensures.row in
    let old = c.loop-k.rows.items in
    let grown = c.in_ok-push.ensures.items in
    let count = c.loop-k.invariant.count in
    let more = length-append old (c.in-Some.row ∷ []) in
    let long = ap (length {A = Vec Field}) grown in
    let Has : ℕ → Vec Field → Type 0 = λ j v. (d : LoadedObject) → IsRowOf L ps j (get_or L j d) v.items in
    let object_is : (d : LoadedObject) → loaded_view x ≡ get_or L k d =
    λ d. ap (λ (y : Loaded). loaded_view y) c.index-objects-k.is
    ∙ (sym (get_or-map loaded_view xs k x d c.loop-k-test.true) ∙ ap (λ (os : List LoadedObject). get_or os k d) c.objects-objects.ensures) in
    let of_row : Has k c.in-Some.row =
    λ d. subst (λ (y : LoadedObject). IsRowOf L ps k y c.in-Some.row.items) (object_is d) row in
    record {
      count = omega (arith, long, more, count);
      rows = by_index_more Has old c.push.new.self.items c.in-Some.row grown c.loop-k.invariant.rows (subst (λ (j : ℕ). Has j c.in-Some.row) (sym count) of_row);
      right =
          right_more L ps (AreRight L ps (relocations L)) (left_of_objects loaded_view xs k) here (left_of_objects loaded_view xs (k + 1))
          (object_read xs k x c.loop-k-test.true c.index-objects-k.is)
          (right.0 refl)
          (objects_apart k (loaded_view x) (map loaded_view (drop (k + 1) xs))) c.loop-k.invariant.right;
    }

pub own_row-requires : goal.own_row-requires
own_row-requires c =
    element_there c.objects-objects.result.now c.args.bindings.now.objects c.loop-k.k c.index-objects-k.result c.objects-objects.ensures c.loop-k-test.true
    c.index-objects-k.is
