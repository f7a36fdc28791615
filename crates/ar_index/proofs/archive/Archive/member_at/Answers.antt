use Rattle.std.proofs.Common.{sym, subst, ◌∙◌}
use Rattle.ar_index.specs.FileBytes.{held_bytes}
use Rattle.ar_index.specs.Reading.{AreAscending}
use Rattle.ar_index.proofs.Ascending.{ascending}
use Rattle.ar_index.proofs.archive.Archive.member_at.Goals as goal

pub data_at-requires : goal.data_at-requires
data_at-requires c = subst AreAscending (sym (c.deref.ensures.value ∙ c.self.invariant.members_are)) (ascending (held_bytes c.self.inside.file))
