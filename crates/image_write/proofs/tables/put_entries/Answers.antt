use Rattle.std.proofs.Common.{◌∙◌, ◌+◌, List, ℕ, ap, drop, sym}
use Rattle.std.proofs.lemmas.List.{drop_all}
use Rattle.resolve.specs.Views.{meaning_views}
use Rattle.resolve.specs.declared.definition.Definition as code
use Rattle.image_write.specs.Tables.{entry_bytes, objects_of, where_of}
use Rattle.image_write.proofs.StreamSteps.{towards_end, towards_fault, towards_is, towards_more}
use Rattle.image_write.proofs.TableParts.{entries_left, room_first, room_rest}
use Rattle.image_write.proofs.tables.put_entries.Goals as goal

pub put_entry-requires-clause-within : goal.put_entry-requires-clause-within
put_entry-requires-clause-within g c = c.requires.names.within c.loop-definition.definition-index _ c.loop-definition-test.true

pub put_entry-requires-clause-room : goal.put_entry-requires-clause-room
put_entry-requires-clause-room g c =
    room_first (objects_of c.args.names.now) c.args.names.now.listed.now c.loop-definition.definition-index _ c.loop-definition-test.true
    c.loop-definition.at c.loop-definition.invariant.room

pub loop-definition-preserved : goal.loop-definition-preserved
loop-definition-preserved g c =
    let n = c.args.names.now in
    let i = c.loop-definition.definition-index in
    record {
      towards =
          towards_is _ _ _ _ _
          (ap (λ (k : ℕ). entry_bytes (where_of n) (objects_of n) k (meaning_views (drop (i + 1) n.listed.now))) (sym c.in_ok-at.ensures.next))
          (towards_more _ _ _ _ _ _ _ c.loop-definition.invariant.towards
          (entries_left (objects_of n) n.listed.now i _ c.loop-definition-test.true (where_of n) c.loop-definition.at)
          c.in_ok-at.ensures.puts.grows);
      room =
          room_rest (objects_of n) n.listed.now i _ c.loop-definition-test.true c.loop-definition.at _ c.loop-definition.invariant.room
          c.in_ok-at.ensures.next;
      failed = c.in_ok-at.ensures.puts.grows.failed ∙ c.loop-definition.invariant.failed;
    }

pub returns-in_err-at : goal.returns-in_err-at
returns-in_err-at g c =
    let n = c.args.names.now in
    towards_fault _ _ _ _ _ _ _ _ c.loop-definition.invariant.towards
    (entries_left (objects_of n) n.listed.now c.loop-definition.definition-index _ c.loop-definition-test.true (where_of n) c.loop-definition.at)
    c.from_residual.ensures.0 c.in_err-at.ensures.puts.breaks

pub returns : goal.returns
returns g c =
    let n = c.args.names.now in
    record {
      grows = towards_end _ _ _
          (towards_is _ _ _ _ _
          (ap (λ (ys : List code.Definition). entry_bytes (where_of n) (objects_of n) c.loop-definition.at (meaning_views ys))
          (drop_all c.loop-definition.definition-index n.listed.now c.loop-definition-test.false))
          c.loop-definition.invariant.towards);
      breaks = tt;
    }
