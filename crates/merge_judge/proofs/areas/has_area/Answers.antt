use Rattle.std.proofs.Common.{arith}
use Rattle.std.proofs.lemmas.Bool.{false≢true}
use Rattle.merge_judge.proofs.AreaLaws.{here, none}
use Rattle.merge_judge.proofs.areas.has_area.Goals as goal

pub returns-in-Some : goal.returns-in-Some
returns-in-Some c =
    let there = c.in-Some.ensures.lookup.3 in
    let law =
    here c.args.m.now c.requires.some c.args.areas.now c.requires.rising c.count_ended.result c.count_ended.ensures.ended c.count_ended.ensures.not_yet
    c.in-Some.area.now there.0 there.1 in (
      λ t. law.0 (c.is_within.ensures.0 t),
      λ has. c.is_within.ensures.1 (law.1 has),
    )

pub returns-in-None : goal.returns-in-None
returns-in-None c = (
  λ t. absurd (false≢true t),
  λ has.
      absurd
      (none c.args.m.now c.requires.some c.args.areas.now c.requires.rising c.count_ended.result c.count_ended.ensures.ended c.count_ended.ensures.not_yet
      (omega (arith, c.in-None.ensures.lookup.3)) has),
)
