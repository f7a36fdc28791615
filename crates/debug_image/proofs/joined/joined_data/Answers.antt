use Rattle.std.proofs.Common.{◌++◌, ◌∷◌, [], ◌∙◌, List, ap, subst, sym, take, take_all}
use Rattle.elf_model.specs.Link.Loading.{LoadedObject}
use Rattle.elf_model.specs.Link.Pieces.{Piece}
use Rattle.search.specs.Views.{loaded_view, loaded_views}
use Rattle.search.specs.declared.loaded.LoadedObject as code_object
use Rattle.debug_image.specs.DataIndexes.{AreAll}
use Rattle.debug_image.specs.DebugSections.{HaveRoom, joined_all, places_from}
use Rattle.debug_image.specs.DebugViews.{joined_views, row_views}
use Rattle.debug_image.proofs.JoinedSteps.{by_flag, joined_from_more, rows_low_more, rows_more, rows_no_room, views_more}
use Rattle.debug_image.proofs.joined.joined_data.Goals as goal

pub loop-k-preserved : goal.loop-k-preserved
loop-k-preserved c =
    let os = c.args.objects.now in
    let k = c.loop-k.k in
    let d = c.index-objects-k.result in
    let within = c.loop-k-test.true in
    let v = c.loop-k.invariant in
    let more = c.in_default.ensures in
    let flags = c.args.flags.now in
    let js = joined_views c.loop-k.joined.items in
    let rows = row_views c.loop-k.rows.items in
    let same = by_flag flags c.is_flagged.result k (loaded_view d) c.is_flagged.ensures in
    let new_rows = more.rows ∙ ap (λ (ps : List Piece). rows ++ places_from js ps ∷ []) same in
    let new_joined = more.joined ∙ ap (λ (ps : List Piece). joined_all js ps) same in
    record {
      rows = rows_more flags js _ os k d rows _ _ within c.index-objects-k.is new_rows new_joined v.rows;
      ends = rows_low_more rows _ _ more.rows v.ends more.ends;
      joined = joined_from_more flags js _ os k d _ within c.index-objects-k.is new_joined v.joined;
      low = more.low;
      few = more.few;
      index =
          subst (λ (xs : List LoadedObject). AreAll xs (row_views c.add_object.new.rows.items) c.add_object.new.index.items) (sym (views_more os k d within c.index-objects-k.is))
          (more.index (loaded_views (take k os)) v.index);
    }

pub returns-in-Err-clause-large : goal.returns-in-Err-clause-large
returns-in-Err-clause-large c = λ large.
    let flags = c.args.flags.now in
    let js = joined_views c.loop-k.joined.items in
    let d = c.index-objects-k.result in
    let same = by_flag flags c.is_flagged.result c.loop-k.k (loaded_view d) c.is_flagged.ensures in
    rows_no_room flags js c.args.objects.now c.loop-k.k d (row_views c.loop-k.rows.items)
    c.loop-k-test.true c.index-objects-k.is c.loop-k.invariant.rows c.loop-k.invariant.joined
    (subst (λ (ps : List Piece). ¬ HaveRoom js ps) same (c.in-Err.ensures.large large))

pub returns-clause-index : goal.returns-clause-index
returns-clause-index c =
    subst (λ (os : List code_object.LoadedObject). AreAll (loaded_views os) (row_views c.loop-k.rows.items) c.loop-k.index.items)
    (take_all c.loop-k.k c.args.objects.now c.loop-k-test.false) c.loop-k.invariant.index
