use Rattle.std.proofs.Common.{ℕ, ◌+◌, ◌%◌, List, [], ◌∷◌, ◌++◌, length, ap, ◌∙◌, arith}
use Rattle.std.proofs.lemmas.Result.{err_from_is_err_and}
use Rattle.elf_model.specs.Inputs.ArchiveFile.{StoredMember}
use Rattle.ar_index.proofs.Steps.{passed}
use Rattle.ar_index.proofs.Walk.{walk_begins, walk_ends, walk_fails, walk_goes_on}
use Rattle.ar_index.proofs.stored_members.read_members.Goals as goal

pub loop-at-init : goal.loop-at-init
loop-at-init c = walk_begins c.args.file.now c.new-members.result.items c.new-members.ensures.items

pub loop-at-preserved : goal.loop-at-preserved
loop-at-preserved c =
    let size = ap (λ (bs : List ℕ). length bs) c.bytes-size.ensures in
    let member = c.in_ok-member.ensures in
    walk_goes_on c.args.file.now c.loop-at.members.items c.push.new.self.items c.loop-at.at _ c.loop-at.invariant (omega (arith, c.len.ensures))
    member.readable member.whole member.good (ap (λ (n : ℕ). c.loop-at.at + 60 + n + n % 2) size ∙ member.next)
    (c.in_ok-push.ensures.items ∙ ap (λ (m : StoredMember). c.loop-at.members.items ++ m ∷ []) member.member)

pub returns-in_err-member-clause-fault : goal.returns-in_err-member-clause-fault
returns-in_err-member-clause-fault c =
    let exit = c.from_residual in
    let f = c.in_err-member.field-0.0 in
    passed c.args.file.now exit.result f (err_from_is_err_and exit.result exit.ensures.1)
    (walk_fails c.args.file.now c.loop-at.members.items c.loop-at.at f c.loop-at.invariant (omega (arith, c.len.ensures)) c.requires.magic c.in_err-member.ensures.fault)

pub returns-clause-passed : goal.returns-clause-passed
returns-clause-passed c = walk_ends c.args.file.now c.loop-at.members.items c.loop-at.at c.loop-at.invariant (omega (arith, c.len.ensures))
