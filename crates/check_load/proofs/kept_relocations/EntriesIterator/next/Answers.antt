use Rattle.std.proofs.Common.{ap, length, sym, ◌∙◌, arith}
use Rattle.check_load.proofs.KeptRelocationLaws.{entries_ended, entry_passed, entry_told}
use Rattle.check_load.proofs.kept_relocations.EntriesIterator.next.Goals as goal

pub loop-self-preserved : goal.loop-self-preserved
loop-self-preserved c =
    let s = c.loop-self.self-inside in
    sym (entry_passed s.rela s.entries s.next c.at-entry.result (omega (arith, c.loop-self-test.true, c.len.ensures)) c.at-entry.ensures
    (sym c.is_some_kind.ensures ∙ c.if-is_some_kind.false))
    ∙ c.loop-self.invariant

pub returns-then-is_some_kind-clause-steps : goal.returns-then-is_some_kind-clause-steps
returns-then-is_some_kind-clause-steps c =
    let s = c.loop-self.self-inside in
    sym c.loop-self.invariant
    ∙ entry_told s.rela s.entries s.next c.at-entry.result (omega (arith, c.loop-self-test.true, c.len.ensures)) c.at-entry.ensures
    (sym c.is_some_kind.ensures ∙ c.if-is_some_kind.true)

pub returns-then-is_some_kind-clause-goes : goal.returns-then-is_some_kind-clause-goes
returns-then-is_some_kind-clause-goes c =
    let longer = ap length (returns-then-is_some_kind-clause-steps c) in
    record {
      on = λ _. (tt, tt, omega (arith, longer));
      keeps = tt;
      rests = λ _. tt;
    }

pub returns-clause-steps : goal.returns-clause-steps
returns-clause-steps c =
    let s = c.loop-self.self-inside in
    let ended = entries_ended s.rela s.entries s.next (omega (arith, c.loop-self-test.false, c.len.ensures)) in
    (sym c.loop-self.invariant ∙ ended, ended)
