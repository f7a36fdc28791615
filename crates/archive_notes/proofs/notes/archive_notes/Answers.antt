use Rattle.search.specs.Views.{loaded_views}
use Rattle.archive_notes.proofs.NoteLaws.{is_note}
use Rattle.archive_notes.proofs.notes.archive_notes.Goals as goal

pub loop-name-preserved : goal.loop-name-preserved
loop-name-preserved c =
    c.in_ok-keep.ensures (loaded_views c.args.objects.now) c.args.items.now c.loop-name.invariant (is_note _ _ _ _ c.in_ok-archive_note.ensures)
