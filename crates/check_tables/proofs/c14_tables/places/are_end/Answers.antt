use Rattle.std.proofs.lemmas.Bool.{false≢true}
use Rattle.check_tables.specs.Tabled.{end_bytes}
use Rattle.check_tables.proofs.TableSteps.{empty_told, strips_nothing, strips_whole}
use Rattle.check_tables.proofs.c14_tables.places.are_end.Goals as goal

pub returns-in-Some : goal.returns-in-Some
returns-in-Some c = strips_whole (end_bytes c.args.places.now) c.args.bytes.now c.in-Some.rest _ (rw c.in-Some.is at c.strip_end.ensures) (empty_told _ c.in-Some.rest.now c.is_empty.ensures)

pub returns-in-None : goal.returns-in-None
returns-in-None c = (
  λ t. absurd (false≢true t),
  λ e. absurd (strips_nothing (end_bytes c.args.places.now) c.args.bytes.now (rw c.in-None.is at c.strip_end.ensures) e),
)
