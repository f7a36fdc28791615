use Rattle.std.proofs.Common.{arith, length}
use Rattle.search.proofs.WaitLaws.{caught_up, idle}
use Rattle.search.proofs.waits.Waits.next_archive.Goals as goal

pub returns-in_default-clause-idle : goal.returns-in_default-clause-idle
returns-in_default-clause-idle g c =
    let os = c.args.inputs.now in
    let w = c.catch_up.new.self in
    idle c.args.loader.now os w.waiting c.args.from (length os) (caught_up c.args.loader.now os w (c.in_ok-catch_up.ensures.covers os c.requires) c.in_ok-catch_up.ensures.seen)
    (λ k q low high. c.in_default.ensures.none k q low)

pub returns-in_default-clause-covers : goal.returns-in_default-clause-covers
returns-in_default-clause-covers g c = c.in_ok-catch_up.ensures.covers c.args.inputs.now c.requires

pub returns-then-archive-inputs-clause-idle : goal.returns-then-archive-inputs-clause-idle
returns-then-archive-inputs-clause-idle g c =
    let os = c.args.inputs.now in
    let w = c.catch_up.new.self in
    let past = c.if-archive-inputs.true in
    idle c.args.loader.now os w.waiting c.args.from (length os) (caught_up c.args.loader.now os w (c.in_ok-catch_up.ensures.covers os c.requires) c.in_ok-catch_up.ensures.seen)
    (λ k q low high. c.in-Some.ensures.least k q low (omega (arith, high, past)))

pub returns-then-archive-inputs-clause-covers : goal.returns-then-archive-inputs-clause-covers
returns-then-archive-inputs-clause-covers g c = c.in_ok-catch_up.ensures.covers c.args.inputs.now c.requires

pub returns-clause-idle : goal.returns-clause-idle
returns-clause-idle g c =
    let os = c.args.inputs.now in
    let w = c.catch_up.new.self in
    idle c.args.loader.now os w.waiting c.args.from c.in-Some.archive
    (caught_up c.args.loader.now os w (c.in_ok-catch_up.ensures.covers os c.requires) c.in_ok-catch_up.ensures.seen) c.in-Some.ensures.least

pub returns-clause-covers : goal.returns-clause-covers
returns-clause-covers g c = c.in_ok-catch_up.ensures.covers c.args.inputs.now c.requires
