use Rattle.std.proofs.Common.{◌≡◌, ◌∙◌, ℕ, Bool, List, ap, subst, sym, Some}
use Rattle.std.specs.Prelude.{IfSome, Option}
use Rattle.elf_model.specs.Link.Slots.{Request}
use Rattle.check_relocs.specs.Known.{known_at}
use Rattle.check_relocs.specs.KnownSlots.{AreAsked, IsNoted, request_here, rows_here}
use Rattle.check_relocs.specs.declared.referrer.Referrer.{Referrer}
use Rattle.check_relocs.proofs.KnownSteps.{known_more, known_weaker}
use Rattle.check_relocs.proofs.NeedSteps.{marked_long, marked_more, noted_itself, noted_marks, noted_unserved, still_noted, unserved_more}
use Rattle.check_relocs.proofs.needs.add_request.Goals as goal

-- what is known of a symbol is noted
known_noted :
    (h : Referrer) (u : Bool) (marks : List Bool) (asked : List (Option Bool)) (j : ℕ) (thread : Bool) → AreAsked u marks h asked → known_at asked j ≡ Some thread →
    IsNoted (rows_here h) u marks (request_here h j thread)
known_noted h u marks asked j thread are is =
    subst (λ (known : Option Bool). IfSome known (λ t. IsNoted (rows_here h) u marks (request_here h j t))) is (are j)

pub returns-then-is_known_asked-clause-unserved : goal.returns-then-is_known_asked-clause-unserved
returns-then-is_known_asked-clause-unserved c =
    let h = c.args.here.now in
    let n = c.args.needs.now in
    noted_unserved (rows_here h) n.unserved n.asked.items (request_here h c.args.j c.args.thread)
    (known_noted h n.unserved n.asked.items c.args.asked.now.items c.args.j c.args.thread c.requires.known
    (ap (λ (l : List (Option Bool)). known_at l c.args.j) (sym c.deref.ensures.value) ∙ c.is_known_asked.ensures c.if-is_known_asked.true))

pub returns-then-is_known_asked-clause-asked : goal.returns-then-is_known_asked-clause-asked
returns-then-is_known_asked-clause-asked c =
    let h = c.args.here.now in
    let n = c.args.needs.now in
    noted_marks (rows_here h) n.unserved n.asked.items (request_here h c.args.j c.args.thread)
    (known_noted h n.unserved n.asked.items c.args.asked.now.items c.args.j c.args.thread c.requires.known
    (ap (λ (l : List (Option Bool)). known_at l c.args.j) (sym c.deref.ensures.value) ∙ c.is_known_asked.ensures c.if-is_known_asked.true))

pub returns-clause-unserved : goal.returns-clause-unserved
returns-clause-unserved c =
    let h = c.args.here.now in
    unserved_more (rows_here h) (request_here h c.args.j c.args.thread) c.position_at.result c.args.needs.now.unserved c.add_position.new.needs.unserved
    c.position_at.ensures c.add_position.ensures.unserved

pub returns-clause-asked : goal.returns-clause-asked
returns-clause-asked c =
    let h = c.args.here.now in
    marked_more (rows_here h) c.args.needs.now.asked.items (request_here h c.args.j c.args.thread) c.requires.size c.add_position.new.needs.asked.items
    c.position_at.result c.position_at.ensures c.add_position.ensures.asked

pub returns-clause-size : goal.returns-clause-size
returns-clause-size c =
    marked_long c.args.needs.now.asked.items c.add_position.new.needs.asked.items c.position_at.result c.add_position.ensures.asked

pub returns-clause-kept : goal.returns-clause-kept
returns-clause-kept c =
    let h = c.args.here.now in
    let old = c.args.needs.now in
    let new = c.add_position.new.needs in
    let r : Request = request_here h c.args.j c.args.thread in
    let told = returns-clause-unserved c in
    let grown = returns-clause-asked c in
    let before : AreAsked new.unserved new.asked.items h c.args.asked.now.items =
    known_weaker (λ j t. IsNoted (rows_here h) old.unserved old.asked.items (request_here h j t)) (λ j t. IsNoted (rows_here h) new.unserved new.asked.items (request_here h j t))
    c.args.asked.now.items
    (λ j t. still_noted (rows_here h) old.unserved new.unserved old.asked.items new.asked.items r told grown (request_here h j t)) c.requires.known in
    known_more (λ j t. IsNoted (rows_here h) new.unserved new.asked.items (request_here h j t)) c.args.asked.now.items c.keep_answer.new.answers.items c.args.j c.args.thread
    c.keep_answer.ensures before (noted_itself (rows_here h) old.unserved new.unserved old.asked.items new.asked.items r told grown)
