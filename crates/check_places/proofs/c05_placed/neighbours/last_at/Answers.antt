use Rattle.std.proofs.Common.{◌≡◌, false, true}
use Rattle.check_places.proofs.NextPieces.{at_other, at_same}
use Rattle.check_places.proofs.c05_placed.neighbours.last_at.Goals as goal

pub returns-then-same_section : goal.returns-then-same_section
returns-then-same_section c =
    at_same c.args.last c.in_ok-last.last c.args.section.now c.in_ok-last.was (c.same_section.ensures.0 c.if-same_section.true)

pub returns : goal.returns
returns c =
    at_other c.args.last c.in_ok-last.last c.args.section.now c.in_ok-last.was
    (λ same. let yes = c.same_section.ensures.1 same in let no = c.if-same_section.false in absurd cc)
