use Rattle.std.proofs.Common.{◌∙◌, ◌<◌, ◌∷◌, List, [], ap, subst, sym}
use Rattle.std.proofs.lemmas.Result.{err_from_is_err_and}
use Rattle.elf_model.specs.Inputs.Command.{Plan}
use Rattle.elf_model.specs.Link.Loading.{LoadedObject, next, object_behind, turn}
use Rattle.elf_model.specs.Link.LoadingBounds.{untaken}
use Rattle.elf_model.specs.Inputs.Opening.{archive_entries}
use Rattle.elf_model.proofs.LoadingBounds.{untaken_falls}
use Rattle.elf_model.proofs.LoadingSteps.{turn_none}
use Rattle.search.specs.Loaders.{IsLater, loaded}
use Rattle.opening.specs.Opened.{item_view}
use Rattle.opening.proofs.TurnSteps.{found_next, turn_extends_later, turn_later}
use Rattle.search.proofs.TurnLaws.{fails_next, none_next}
use Rattle.search.proofs.WaitLaws.{covers_later, is_later_trans}
use Rattle.search.proofs.turns.take_members.Goals as goal

pub loop-offset-smaller : goal.loop-offset-smaller
loop-offset-smaller g c =
    let os = loaded c.loop-offset.loader in
    let o = c.args.input.now in
    let plan = c.loop-offset.loader.plan.now in
    let f = found_next plan os o (item_view c.item-item.result) c.in-Some.offset c.data_at.result.now c.in_ok-offset.field-0 c.in_ok-offset.ensures.exact c.in-Some.is c.item-item.ensures c.data_at.ensures in
    subst (λ (to : List LoadedObject). untaken to o.number (archive_entries o.bytes) < untaken os o.number (archive_entries o.bytes))
    (sym (c.in_ok-add.ensures.loaded ∙ f.2)) (untaken_falls plan os o f.0 f.1)

pub loop-offset-preserved : goal.loop-offset-preserved
loop-offset-preserved g c =
    let os = loaded c.loop-offset.loader in
    let o = c.args.input.now in
    let first = c.args.loader.now.plan.now in
    let item = item_view c.item-item.result in
    let offset = c.in-Some.offset in
    let f = found_next c.loop-offset.loader.plan.now os o item offset c.data_at.result.now c.in_ok-offset.field-0 c.in_ok-offset.ensures.exact c.in-Some.is c.item-item.ensures c.data_at.ensures in
    let some = ap (λ (p : Plan). next p os o) (sym c.loop-offset.invariant.later.plan) ∙ f.1 in
    let on : IsLater c.loop-offset.loader c.add.new.self = record { plan = c.in_ok-add.ensures.plan; objects = (object_behind os item offset c.data_at.result.now ∷ [], c.in_ok-add.ensures.loaded); requested = c.in_ok-add.ensures.grows } in record {
      later = is_later_trans c.args.loader.now c.loop-offset.loader c.add.new.self c.loop-offset.invariant.later on;
      known = c.in_ok-add.ensures.known;
      covers =
          covers_later c.loop-offset.loader c.add.new.self c.args.inputs.now c.next.new.self c.loop-offset.invariant.known c.in_ok-add.ensures.known on
          c.in_ok-offset.ensures.covers;
      rest = turn_later first os o f.0 (loaded c.add.new.self) (turn first o (loaded c.args.loader.now)) c.requires.searched some (c.in_ok-add.ensures.loaded ∙ f.2) c.loop-offset.invariant.rest;
    }

pub returns-in_err-add-clause-fault : goal.returns-in_err-add-clause-fault
returns-in_err-add-clause-fault g c =
    let p = err_from_is_err_and c.from_residual-in_err-add.result c.from_residual-in_err-add.ensures.1 in
    let os = loaded c.loop-offset.loader in
    let o = c.args.input.now in
    let item = item_view c.item-item.result in
    let first = c.args.loader.now.plan.now in
    let offset = c.in-Some.offset in
    let f = found_next c.loop-offset.loader.plan.now os o item offset c.data_at.result.now c.in_ok-offset.field-0 c.in_ok-offset.ensures.exact c.in-Some.is c.item-item.ensures c.data_at.ensures in
    let some = ap (λ (q : Plan). next q os o) (sym c.loop-offset.invariant.later.plan) ∙ f.1 in
    rw (p.1, p.2)
    (fails_next c.add.new.self.reached os item offset c.data_at.result.now (turn first o (loaded c.args.loader.now)) c.in_err-add.field-0.0
    c.loop-offset.invariant.known.objects c.loop-offset.invariant.known.lawful
    (turn_extends_later first os o f.0 _ (turn first o (loaded c.args.loader.now)) c.requires.searched some f.2 c.loop-offset.invariant.rest)
    c.in_err-add.ensures.reached c.in_err-add.ensures.fault)

pub returns-clause-loaded : goal.returns-clause-loaded
returns-clause-loaded g c =
    let os = loaded c.loop-offset.loader in
    let o = c.args.input.now in
    let first = c.args.loader.now.plan.now in
    let none = ap (λ (p : Plan). next p os o) (sym c.loop-offset.invariant.later.plan) ∙ none_next c.loop-offset.loader.plan.now os o c.in_ok-offset.field-0 c.in_ok-offset.ensures.exact c.in_default.is in
    sym (turn_none first o os c.requires.searched none) ∙ c.loop-offset.invariant.rest
