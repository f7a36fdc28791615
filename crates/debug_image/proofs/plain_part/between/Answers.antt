use Rattle.std.proofs.Common.{sym}
use Rattle.debug_image.proofs.PlainSteps.{nothing_between}
use Rattle.debug_image.proofs.plain_part.between.Goals as goal

pub returns-then-end-lt-EHDR_SIZE : goal.returns-then-end-lt-EHDR_SIZE
returns-then-end-lt-EHDR_SIZE c = sym (nothing_between c.args.image.now c.args.end c.if-end-lt-EHDR_SIZE.true)
