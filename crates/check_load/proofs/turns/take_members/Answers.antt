use Rattle.std.proofs.Common.{◌∙◌, ◌<◌, List, sym, ap, subst}
use Rattle.std.proofs.lemmas.Result.{err_from_is_err_and}
use Rattle.elf_model.specs.Inputs.Command.{Plan}
use Rattle.elf_model.specs.Link.Loading.{LoadedObject, next, turn, with_object}
use Rattle.elf_model.specs.Link.LoadingBounds.{untaken}
use Rattle.elf_model.specs.Inputs.Opening.{archive_entries}
use Rattle.elf_model.proofs.LoadingBounds.{untaken_falls}
use Rattle.check_load.specs.Loaders.{loaded}
use Rattle.opening.specs.Opened.{item_view}
use Rattle.opening.proofs.TurnSteps.{found_next, turn_extends_later, turn_later}
use Rattle.check_load.proofs.TurnLaws.{fails_next}
use Rattle.check_load.proofs.turns.take_members.Goals as goal

pub loop-offset-smaller : goal.loop-offset-smaller
loop-offset-smaller c =
    let os = loaded c.loop-offset.loader in
    let o = c.args.input.now in
    let f = found_next c.loop-offset.loader.plan.now os o (item_view c.item-item.result) c.in-Some.offset c.data_at.result.now c.next_member.result c.next_member.ensures.exact c.in-Some.is c.item-item.ensures c.data_at.ensures in
    let grown = c.in_ok-add.ensures.loaded ∙ ap (λ (l : List LoadedObject). with_object l (item_view c.item-item.result) c.in-Some.offset c.data_at.result.now) c.next_member.ensures.loaded in
    subst (λ (to : List LoadedObject). untaken to o.number (archive_entries o.bytes) < untaken os o.number (archive_entries o.bytes))
    (sym (grown ∙ f.2)) (untaken_falls c.loop-offset.loader.plan.now os o f.0 f.1)

pub loop-offset-preserved : goal.loop-offset-preserved
loop-offset-preserved c =
    let os = loaded c.loop-offset.loader in
    let o = c.args.input.now in
    let plan = c.args.loader.now.plan.now in
    let f = found_next c.loop-offset.loader.plan.now os o (item_view c.item-item.result) c.in-Some.offset c.data_at.result.now c.next_member.result c.next_member.ensures.exact c.in-Some.is c.item-item.ensures c.data_at.ensures in
    let some = ap (λ (p : Plan). next p os o) (sym c.loop-offset.invariant.plan) ∙ f.1 in
    let grown = c.in_ok-add.ensures.loaded ∙ ap (λ (l : List LoadedObject). with_object l (item_view c.item-item.result) c.in-Some.offset c.data_at.result.now) c.next_member.ensures.loaded in record {
      plan = c.in_ok-add.ensures.plan ∙ c.next_member.ensures.plan ∙ c.loop-offset.invariant.plan;
      known = c.in_ok-add.ensures.known;
      rest = turn_later plan os o f.0 (loaded c.add.new.self) (turn plan o (loaded c.args.loader.now)) c.requires.searched some (grown ∙ f.2) c.loop-offset.invariant.rest;
    }

pub returns-in_err-add-clause-stop : goal.returns-in_err-add-clause-stop
returns-in_err-add-clause-stop c =
    let p = err_from_is_err_and c.from_residual.result c.from_residual.ensures.1 in
    let os = loaded c.loop-offset.loader in
    let o = c.args.input.now in
    let item = item_view c.item-item.result in
    let plan = c.args.loader.now.plan.now in
    let f = found_next c.loop-offset.loader.plan.now os o item c.in-Some.offset c.data_at.result.now c.next_member.result c.next_member.ensures.exact c.in-Some.is c.item-item.ensures c.data_at.ensures in
    let some = ap (λ (q : Plan). next q os o) (sym c.loop-offset.invariant.plan) ∙ f.1 in
    rw (p.1, p.2)
    (fails_next os item c.in-Some.offset c.data_at.result.now (turn plan o (loaded c.args.loader.now)) c.in_err-add.field-0.0
    (turn_extends_later plan os o f.0 _ (turn plan o (loaded c.args.loader.now)) c.requires.searched some f.2 c.loop-offset.invariant.rest)
    c.in_err-add.ensures.stop)
