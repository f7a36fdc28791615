use Rattle.std.proofs.Common.{◌+◌, ◌∷◌, [], ◌∙◌, ℕ, List, ap, length}
use Rattle.std.proofs.lemmas.List.{length-append}
use Rattle.std.specs.List.{slice_get}
use Rattle.search.specs.Views.{loaded_view, loaded_views}
use Rattle.debug_image.specs.KeptGroups.{groups_from}
use Rattle.debug_image.specs.KeptTables.{StandInTable}
use Rattle.debug_image.proofs.StandInSteps.{object_at, tables_more}
use Rattle.debug_image.proofs.stand_ins.stand_ins.Goals as goal

pub loop-loaded-preserved : goal.loop-loaded-preserved
loop-loaded-preserved c =
    let os = c.args.objects.now in
    let i = c.loop-loaded.loaded-index in
    let ts = c.loop-loaded.tables.items in
    let t = c.in_ok-stand_ins_of.field-0 in
    let o = loaded_view c.loaded-item.result in
    record {
      count = ap (λ (xs : List StandInTable). length xs) c.in_ok-push.ensures.items ∙ (length-append ts (t ∷ []) ∙ ap (λ (n : ℕ). n + 1) c.loop-loaded.invariant.count);
      each =
          tables_more (loaded_views os) ts c.push.new.self.items t o c.in_ok-push.ensures.items
          (ap (slice_get (loaded_views os)) c.loop-loaded.invariant.count ∙ object_at os i c.loaded-item.result c.loop-loaded-test.true c.loaded-item.is)
          (λ n gone. c.in_ok-stand_ins_of.ensures (groups_from 0 (loaded_views os)) c.requires n gone) c.loop-loaded.invariant.each;
    }
