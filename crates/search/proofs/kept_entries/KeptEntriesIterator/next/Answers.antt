use Rattle.std.proofs.Common.{ap, length, sym, ◌∙◌, arith}
use Rattle.search.proofs.KeptWalks.{kept_ended, kept_passed, kept_told}
use Rattle.search.proofs.kept_entries.KeptEntriesIterator.next.Goals as goal

pub loop-self-preserved : goal.loop-self-preserved
loop-self-preserved c =
    let s = c.loop-self.self-inside in
    sym (kept_passed s.entries s.next c.at-entry.result (omega (arith, c.loop-self-test.true, c.len.ensures)) c.at-entry.ensures
    (sym c.is_some_kind.ensures ∙ c.if-is_some_kind.false))
    ∙ c.loop-self.invariant

pub returns-then-is_some_kind-clause-steps : goal.returns-then-is_some_kind-clause-steps
returns-then-is_some_kind-clause-steps c =
    let s = c.loop-self.self-inside in
    sym c.loop-self.invariant
    ∙ kept_told s.entries s.next c.at-entry.result (omega (arith, c.loop-self-test.true, c.len.ensures)) c.at-entry.ensures
    (sym c.is_some_kind.ensures ∙ c.if-is_some_kind.true)

pub returns-then-is_some_kind-clause-goes : goal.returns-then-is_some_kind-clause-goes
returns-then-is_some_kind-clause-goes c =
    let longer = ap length (returns-then-is_some_kind-clause-steps c) in
    record {
      on = λ _. (tt, tt, omega (arith, longer));
      keeps = tt;
      rests = λ _. tt;
    }

pub returns-clause-steps : goal.returns-clause-steps
returns-clause-steps c =
    let s = c.loop-self.self-inside in
    let ended = kept_ended s.entries s.next (omega (arith, c.loop-self-test.false, c.len.ensures)) in
    (sym c.loop-self.invariant ∙ ended, ended)
