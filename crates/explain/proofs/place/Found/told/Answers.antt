use Rattle.std.proofs.Common.{◌≡◌, ◌<◌, ap, arith, inl, length, refl, rules}
use Rattle.std.proofs.lemmas.List.Elements.{All-push}
use Rattle.explain.specs.Places.{Holds}
use Rattle.explain.proofs.Caused.{all_kept}
use Rattle.explain.proofs.Told.{still_told}
use Rattle.explain.proofs.place.Found.told.Goals as goal

pub returns-then-not-is_empty-clause-holds : goal.returns-then-not-is_empty-clause-holds
returns-then-not-is_empty-clause-holds c = λ files words some cause says.
    all_kept _ _ files words c.args.error.now c.args.self.places.items _ _ _ c.retain.ensures.filtered c.truncate.ensures.items (λ x b f t. search rules) cause says

pub returns-clause-holds : goal.returns-clause-holds
returns-clause-holds c = λ files words some cause says.
    let kept = all_kept _ _ files words c.args.error.now c.args.self.places.items _ _ _ c.retain.ensures.filtered c.truncate.ensures.items (λ x b f t. search rules) cause says in
    rw c.in_ok-push.ensures.items (All-push (Holds files words) _ _ kept (record { says = inl some; cause = cause }))

pub returns-then-not-is_empty-clause-flaws : goal.returns-then-not-is_empty-clause-flaws
returns-then-not-is_empty-clause-flaws c = λ of few some.
    let same = still_told _ _ c.args.error.now c.args.most c.args.self.places.items _ _ c.retain.ensures.filtered c.truncate.ensures.items (λ x b g t. search rules) of few in
    (same, refl)

pub returns-clause-flaws : goal.returns-clause-flaws
returns-clause-flaws c = λ of few some.
    let same = still_told _ _ c.args.error.now c.args.most c.args.self.places.items _ _ c.retain.ensures.filtered c.truncate.ensures.items (λ x b g t. search rules) of few in
    let room : 0 < c.args.most = omega arith in
    let there = some room in
    let count = ap length same in
    let empty : length c.truncate.new.self.items ≡ 0 = search rules in
    absurd (omega (arith, there, count, empty))
