use Rattle.std.proofs.Common.{List, ap, get_or, ◌∙◌}
use Rattle.std.specs.Prelude.{find}
use Rattle.reloc_values.specs.Patches.{covers}
use Rattle.reloc_values.specs.declared.patch.Patch.{Patch}
use Rattle.reloc_values.proofs.Overlaid.{ended_before}
use Rattle.reloc_values.proofs.Searched.{find-drop}
use Rattle.reloc_values.proofs.row_parts.ending_after.Goals as goal

pub returns-clause-found : goal.returns-clause-found
returns-clause-found c = λ k from.
    ap (λ (ps : List Patch). find (covers k) ps) c.split_at.ensures.back
    ∙ find-drop (covers k) c.count_ended.result c.args.row.now
    (λ i d low within. ended_before k c.args.byte (get_or c.args.row.now i d) (c.count_ended.ensures.ended i d low) from)
