use Rattle.std.specs.BTreeMap.{get}
use Rattle.check_link.specs.OutputSections.{section_order}
use Rattle.run_judge.proofs.PairSteps.{before_told, last_inside, lasts_told}
use Rattle.run_judge.proofs.pairs.before.Goals as goal

pub counted-requires : goal.counted-requires
counted-requires c =
    last_inside c.args.ordered.now c.args.at _ c.requires.within c.run_section.result (get section_order c.args.lasts.now)
    c.run_section.ensures c.requires.lasts c.in_ok-last.last c.in_ok-last.ensures.before

pub returns-clause-before : goal.returns-clause-before
returns-clause-before c =
    before_told c.args.ordered.now c.args.at _ c.requires.within c.run_section.result (get section_order c.args.lasts.now)
    c.run_section.ensures c.requires.lasts c.in_ok-last.last c.in_ok-last.ensures.before c.counted.result c.counted.ensures

pub returns-clause-lasts : goal.returns-clause-lasts
returns-clause-lasts c =
    lasts_told c.args.ordered.now c.args.at _ c.requires.within c.run_section.result (get section_order c.args.lasts.now)
    c.run_section.ensures c.requires.lasts c.in_ok-last.last c.in_ok-last.ensures.before (get section_order c.replace.new.lasts)
    c.in_ok-last.ensures.known
