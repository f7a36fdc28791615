use Rattle.std.proofs.Common.{List, ap, arith, subst, sym, ℕ}
use Rattle.check_load.specs.KeptRelocations.{relocation_at}
use Rattle.check_load.specs.Views.{loaded_view}
use Rattle.field_judge.specs.Given.{IsGiven}
use Rattle.field_judge.specs.Rewritten.{instruction_view}
use Rattle.link_fields.proofs.OwnPlaces.{alone_right, place_right}
use Rattle.link_fields.specs.Parts.{Parts, given}
use Rattle.link_fields.proofs.relocations.is_own_place_right.Goals as goal

pub returns-then-front-eq0 : goal.returns-then-front-eq0
returns-then-front-eq0 c =
    let p = c.args.parts.now in
    let image = ap (λ (q : Parts). q.image) c.parts.view_is in
    let g = given p (relocation_at c.args.number (loaded_view c.args.loaded.now) c.args.relocation.now) in
    let zero = c.if-front-eq0.true in
    alone_right p c.args.taken.now c.args.number (loaded_view c.args.loaded.now) c.args.relocation.now _ c.is_of_kind.result image c.requires.own
    c.kind-kind.result c.front_of-front.result c.kind-kind.ensures c.front_of-front.ensures.exact (omega (arith, zero))
    (c.is_of_kind.ensures g (subst (λ (i : List ℕ). IsGiven i c.asked_of-asked.result g) (sym image) c.asked_of-asked.ensures))

pub returns : goal.returns
returns c =
    let p = c.args.parts.now in
    let image = ap (λ (q : Parts). q.image) c.parts.view_is in
    let g = given p (relocation_at c.args.number (loaded_view c.args.loaded.now) c.args.relocation.now) in
    place_right p c.args.taken.now c.args.number (loaded_view c.args.loaded.now) c.args.relocation.now _ c.is_place_right.result image c.requires.own
    c.kind-kind.result c.front_of-front.result c.is_code-code.result (instruction_view c.instruction_of-i.result) c.kind-kind.ensures
    c.front_of-front.ensures.exact c.is_code-code.ensures c.instruction_of-i.ensures
    (c.is_place_right.ensures g (subst (λ (i : List ℕ). IsGiven i c.asked_of-asked.result g) (sym image) c.asked_of-asked.ensures))
