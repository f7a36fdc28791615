use Rattle.std.proofs.Common.{refl, length, arith}
use Rattle.std.specs.Prelude.{slice_index}
use Rattle.std.proofs.lemmas.Bool.{false≢true}
use Rattle.checker.proofs.GotSteps.{held_alike}
use Rattle.checker.proofs.Runs.{held_by_run}
use Rattle.checker.proofs.c07_got.got_bytes.holds_bytes.Goals as goal

pub returns-in-Some : goal.returns-in-Some
returns-in-Some c =
    let bytes = c.args.bytes.now in
    let run = c.in-Some.held in
    let whole = c.in-Some.ensures.run.whole in
    held_by_run c.args.memory.now c.args.at (length bytes) run.bytes.now run.zeros (slice_index bytes) c.same_padded.result c.in-Some.ensures.run
    (held_alike run.bytes.now bytes (slice_index run.bytes.now) c.same_padded.result (omega (arith, whole)) (λ k below. refl) c.same_padded.ensures)

pub returns-in-None : goal.returns-in-None
returns-in-None c = absurd (false≢true (c.in-None.ensures.found.1 c.requires.encloses))
