use Rattle.std.proofs.Common.{take}
use Rattle.std.specs.Prelude.{All}
use Rattle.call_frames.specs.Fields.{IsNarrow}
use Rattle.call_frames.proofs.fields.all_narrow.Given as goal

abbrev pub invariant-loop-span : goal.invariant-loop-span
invariant-loop-span l = All IsNarrow (take l.span-index l.spans)
