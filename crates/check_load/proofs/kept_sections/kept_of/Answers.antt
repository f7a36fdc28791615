use Rattle.std.proofs.Common.{◌<◌, subst, w32}
use Rattle.std.proofs.Math.Facts.{Fits-of_lt}
use Rattle.check_load.proofs.KeptLaws.{section_numbered}
use Rattle.check_load.proofs.kept_sections.kept_of.Goals as goal

pub overflow_cast-i : goal.overflow_cast-i
overflow_cast-i c =
    Fits-of_lt {w = w32}
    (section_numbered c.args.object.now c.sections-headers.result.now c.loop-i.i c.bytes-bytes.ensures.object c.sections-headers.ensures
    (subst (λ n. c.loop-i.i < n) c.len-i-end.ensures c.loop-i-test.true))
