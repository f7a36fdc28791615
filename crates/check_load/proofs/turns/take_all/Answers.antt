use Rattle.std.proofs.Common.{◌≡◌, ◌<◌, List, ℕ, get_or, length, subst}
use Rattle.std.proofs.lemmas.Result.{err_from_is_err_and}
use Rattle.elf_model.specs.Inputs.ArchiveFile.{Member}
use Rattle.elf_model.specs.Link.Loading.{with_members}
use Rattle.elf_model.specs.Inputs.Opening.{archive_members}
use Rattle.check_load.specs.Stops.{Refutes}
use Rattle.check_load.specs.Loaders.{IsLoadable, loaded}
use Rattle.opening.proofs.TurnSteps.{members_later}
use Rattle.check_load.proofs.TurnLaws.{fails_next}
use Rattle.check_load.proofs.turns.take_all.Goals as goal

pub returns-in_err-add-clause-stop : goal.returns-in_err-add-clause-stop
returns-in_err-add-clause-stop c =
    let p = err_from_is_err_and c.from_residual.result c.from_residual.ensures.1 in
    let os = loaded c.loop-member.loader in
    let o = c.args.input.now in
    let ms = archive_members o.bytes in
    let m = c.member-item.result in
    let i = c.loop-member.member-index in
    let within = subst (λ (l : List Member). i < length l) c.members-member-items.ensures c.loop-member-test.true in
    let is = subst (λ (l : List Member). m ≡ get_or l i m) c.members-member-items.ensures c.member-item.is in
    rw (p.1, p.2)
    (fails_next os o m.offset m.bytes (with_members (loaded c.args.loader.now) o ms) c.in_err-add.field-0.0 (members_later os o ms i m (with_members (loaded c.args.loader.now) o ms) within is c.loop-member.invariant.rest)
    (subst (λ (b : List ℕ). Refutes (IsLoadable b) c.in_err-add.field-0.0) c.bytes.ensures c.in_err-add.ensures.stop))
