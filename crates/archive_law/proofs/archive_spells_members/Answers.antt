use Rattle.std.proofs.Common.{subst}
use Rattle.archive_law.specs.ArchiveText.{SpellsMembers}
use Rattle.archive_law.proofs.Walk.{is_spelled, spelled_is}
use Rattle.archive_law.proofs.archive_spells_members.Goals as goal

pub returns-clause-walk : goal.returns-clause-walk
returns-clause-walk c = λ bytes members. (λ good. subst (SpellsMembers bytes) good.1 (is_spelled bytes good.0), spelled_is bytes members)

pub returns-clause-archives : goal.returns-clause-archives
returns-clause-archives c = λ bytes archive. is_spelled bytes (record { magic = archive.magic; whole = archive.whole; headers = archive.headers })
