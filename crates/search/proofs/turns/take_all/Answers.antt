use Rattle.std.proofs.Common.{◌≡◌, ◌<◌, List, ℕ, get_or, length, subst}
use Rattle.std.proofs.lemmas.Result.{err_from_is_err_and}
use Rattle.elf_model.specs.Inputs.ArchiveFile.{Member}
use Rattle.elf_model.specs.Link.Loading.{object_behind, with_members}
use Rattle.elf_model.specs.Inputs.Opening.{Opened, archive_members}
use Rattle.search.specs.Faults.{FailsAt, IsReached}
use Rattle.search.specs.Loaders.{loaded}
use Rattle.opening.specs.Opened.{item_view}
use Rattle.opening.proofs.TurnSteps.{members_later}
use Rattle.search.proofs.TurnLaws.{fails_next}
use Rattle.search.proofs.turns.take_all.Goals as goal

pub returns-in_err-add-clause-fault : goal.returns-in_err-add-clause-fault
returns-in_err-add-clause-fault g c =
    let p = err_from_is_err_and c.from_residual.result c.from_residual.ensures.1 in
    let os = loaded c.loop-member.loader in
    let o = c.args.input.now in
    let ms = archive_members o.bytes in
    let m = c.member-item.result in
    let i = c.loop-member.member-index in
    let within = subst (λ (l : List Member). i < length l) c.members-member-items.ensures c.loop-member-test.true in
    let is = subst (λ (l : List Member). m ≡ get_or l i m) c.members-member-items.ensures c.member-item.is in
    let r = c.add.new.self.reached in
    let at =
    subst (λ (x : Opened). IsReached r (object_behind os x m.offset m.bytes)) c.item-item.ensures
    (subst (λ (k : ℕ). IsReached r (object_behind os (item_view c.item-item.result) k m.bytes)) c.offset.ensures
    (subst (λ (b : List ℕ). IsReached r (object_behind os (item_view c.item-item.result) c.offset.result b)) c.bytes.ensures c.in_err-add.ensures.reached)) in
    rw (p.1, p.2)
    (fails_next r os o m.offset m.bytes (with_members (loaded c.args.loader.now) o ms) c.in_err-add.field-0.0 c.loop-member.invariant.known.objects
    c.loop-member.invariant.known.lawful (members_later os o ms i m (with_members (loaded c.args.loader.now) o ms) within is c.loop-member.invariant.rest)
    at
    (subst (λ (b : List ℕ). FailsAt b c.in_err-add.field-0.0) c.bytes.ensures c.in_err-add.ensures.fault))
