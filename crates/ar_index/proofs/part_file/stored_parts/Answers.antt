use Rattle.std.proofs.Common.{◌≡◌, ◌∙◌, ◌+◌, ◌%◌, ◌++◌, ◌∷◌, [], ℕ, ap, arith}
use Rattle.elf_model.specs.Inputs.ArchiveFile.{StoredMember}
use Rattle.ar_index.specs.Parts.{stored_part}
use Rattle.ar_index.proofs.PartSteps.{none_stored, one_stored}
use Rattle.ar_index.proofs.part_file.stored_parts.Goals as goal

pub loop-member-init : goal.loop-member-init
loop-member-init c = none_stored c.members-members.result.now c.in_ok-stored.stored.items c.in_ok-stored.ensures.items

pub loop-member-preserved : goal.loop-member-preserved
loop-member-preserved c =
    let p = c.member-item.result in
    let stored : c.new.result ≡ stored_part c.loop-member.at p =
    c.new.ensures ∙ (λ i. record { offset = c.loop-member.at; name = c.name.ensures.exact i; bytes = c.data_of.ensures i }) in
    one_stored c.members-members.result.now c.loop-member.member-index p p c.loop-member.stored.items c.loop-member.at c.loop-member.invariant c.loop-member-test.true
    c.member-item.is c.show.ensures.part c.push.new.self.items _
    (c.in_ok-push.ensures.items ∙ ap (λ (m : StoredMember). c.loop-member.stored.items ++ m ∷ []) stored)
    (ap (λ (n : ℕ). c.loop-member.at + 60 + n + n % 2) c.size-size.ensures) (omega (arith, c.if-at-ge-FILE_LIMIT.false))
