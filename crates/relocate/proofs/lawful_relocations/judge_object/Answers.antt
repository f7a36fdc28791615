use Rattle.std.proofs.Common.{◌≡◌, IfErr}
use Rattle.std.specs.Prelude.{OnOk}
use Rattle.elf_model.specs.Link.Relocation.{relocations_from}
use Rattle.search.specs.Views.{loaded_view}
use Rattle.got_tls.specs.Asking.{with_relocations}
use Rattle.got_tls.specs.AskedViews.{wants}
use Rattle.relocate.specs.References.{AreLawful, RelocationsFail}
use Rattle.relocate.specs.SymbolTables.{all_of, referring}
use Rattle.relocate.proofs.SymbolTables.{moved}
use Rattle.relocate.proofs.lawful_relocations.judge_object.Goals as goal

pub returns-clause-fault : goal.returns-clause-fault
returns-clause-fault c =
    let r = c.in_ok-referrer.referrer in
    moved (λ os n o. IfErr c.judge_referrer.result (RelocationsFail os (relocations_from n o))) (all_of r) c.args.resolved.now r.number c.args.number
    (referring r) (loaded_view c.args.loaded.now) c.in_ok-referrer.ensures.all c.in_ok-referrer.ensures.number c.in_ok-referrer.ensures.own
    c.judge_referrer.ensures.fault

pub returns-clause-asked : goal.returns-clause-asked
returns-clause-asked c =
    let r = c.in_ok-referrer.referrer in
    moved (λ os n o. OnOk c.judge_referrer.result (wants c.judge_referrer.new.asked ≡ with_relocations os (wants c.args.asked.now) (relocations_from n o))) (all_of r)
    c.args.resolved.now r.number c.args.number (referring r) (loaded_view c.args.loaded.now) c.in_ok-referrer.ensures.all c.in_ok-referrer.ensures.number
    c.in_ok-referrer.ensures.own c.judge_referrer.ensures.asked

pub returns-clause-lawful : goal.returns-clause-lawful
returns-clause-lawful c =
    let r = c.in_ok-referrer.referrer in
    moved (λ os n o. OnOk c.judge_referrer.result (AreLawful os (relocations_from n o))) (all_of r) c.args.resolved.now r.number c.args.number
    (referring r) (loaded_view c.args.loaded.now) c.in_ok-referrer.ensures.all c.in_ok-referrer.ensures.number c.in_ok-referrer.ensures.own
    c.judge_referrer.ensures.lawful
