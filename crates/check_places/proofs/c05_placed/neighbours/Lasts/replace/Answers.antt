use Rattle.std.proofs.Common.{ℕ, Option, ap}
use Rattle.std.specs.BTreeMap.{get}
use Rattle.std.specs.Option.{option_or}
use Rattle.check_link.specs.OutputSections.{section_order}
use Rattle.check_link.specs.declared.output_sections.OutputSection.{OutputSection}
use Rattle.check_places.specs.Neighbours.{last_at, last_known}
use Rattle.check_places.proofs.NextPieces.{in_front, without}
use Rattle.check_places.proofs.c05_placed.neighbours.Lasts.replace.Goals as goal

pub returns-in-Some-clause-known : goal.returns-in-Some-clause-known
returns-in-Some-clause-known c =
    let s = c.args.section.now in
    let old = c.args.self.now in
    let below = λ (t : OutputSection). option_or (last_at old.other t) (get section_order old.map t) in
    λ t. in_front s c.args.at below (last_known old) t (λ differ. without s c.args.at old.latest c.in-Some.before c.in-Some.ensures t differ (below t))

pub returns-in-Some-last_at-clause-known : goal.returns-in-Some-last_at-clause-known
returns-in-Some-last_at-clause-known c =
    let s = c.args.section.now in
    let old = c.args.self.now in
    λ t. in_front s c.args.at (λ (u : OutputSection). option_or (last_at old.latest u) (get section_order old.map u)) (last_known old) t
    (λ differ. ap (λ (o : Option ℕ). option_or (last_at old.latest t) o)
    (without s c.args.at old.other c.in-Some-last_at.before c.in-Some-last_at.ensures t differ (get section_order old.map t)))

pub returns-clause-known : goal.returns-clause-known
returns-clause-known c =
    let s = c.args.section.now in
    let old = c.args.self.now in
    λ t. in_front s c.args.at (λ (u : OutputSection). option_or (last_at old.latest u) (get section_order c.settle.new.map u)) (last_known old) t
    (λ differ. ap (λ (o : Option ℕ). option_or (last_at old.latest t) o) (c.in_ok-settle.ensures t))
