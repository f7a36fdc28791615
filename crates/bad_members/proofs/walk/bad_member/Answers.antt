use Rattle.std.proofs.Common.{inl, inr, ℕ, List, arith, refl, subst}
use Rattle.elf_model.specs.declared.faults.ArFault.{ArFault}
use Rattle.ar_index.specs.Reading.{IsFaultAt}
use Rattle.bad_members.specs.BadMembers.{IsBadMember}
use Rattle.bad_members.proofs.Due.{first_due, here, next_due}
use Rattle.bad_members.proofs.walk.bad_member.Goals as goal

pub loop-at-init : goal.loop-at-init
loop-at-init c = first_due c.new-file.result

pub loop-at-preserved : goal.loop-at-preserved
loop-at-preserved c =
    let next = c.in-Ok.ensures in
    next_due c.new-file.result c.loop-at.at c.in-Ok.next c.loop-at.invariant (omega (arith, c.loop-at-test.true, c.len.ensures)) next.readable next.next
    next.further

pub returns-in-Err : goal.returns-in-Err
returns-in-Err c =
    let file = c.new-file.result in
    let at = c.loop-at.at in
    subst (λ (bytes : List ℕ). IsBadMember bytes c.args.fault at) c.new-file.ensures (record {
      there = here file at c.loop-at.invariant (omega (arith, c.loop-at-test.true, c.len.ensures));
      bad = inl (subst (λ (f : ArFault). IsFaultAt file at f) (c.if-is_fault.ensures refl) c.in-Err.ensures.fault);
    })

pub returns-then-is_misnamed : goal.returns-then-is_misnamed
returns-then-is_misnamed c =
    let file = c.new-file.result in
    let at = c.loop-at.at in
    subst (λ (bytes : List ℕ). IsBadMember bytes c.args.fault at) c.new-file.ensures (record {
      there = here file at c.loop-at.invariant (omega (arith, c.loop-at-test.true, c.len.ensures));
      bad = inr (c.if-is_misnamed.ensures refl);
    })
