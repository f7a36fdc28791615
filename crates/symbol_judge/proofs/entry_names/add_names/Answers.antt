use Rattle.std.proofs.Common.{arith}
use Rattle.symbol_judge.proofs.NameSteps.{all_noted, entry_noted}
use Rattle.symbol_judge.proofs.entry_names.add_names.Goals as goal

pub note-requires : goal.note-requires
note-requires c = c.loop-entry.invariant.0

pub loop-entry-preserved : goal.loop-entry-preserved
loop-entry-preserved c = (
  c.in_ok-note.ensures.noted,
  λ n.
      entry_noted c.args.strings.now n c.args.entries.now c.loop-entry.entry-index _ _ _ _ c.loop-entry-test.true (c.in_ok-note.ensures.among n)
      (c.loop-entry.invariant.1 n),
)

pub returns : goal.returns
returns c = λ n.
    all_noted c.args.strings.now n c.args.entries.now c.loop-entry.entry-index _ _ (omega (arith, c.loop-entry-test.false)) (c.loop-entry.invariant.1 n)
