use Rattle.std.proofs.Common.{◌+◌, List, ap, get_or, ◌∙◌, arith}
use Rattle.std.specs.Prelude.{find}
use Rattle.reloc_values.specs.Patches.{covers}
use Rattle.reloc_values.specs.declared.patch.Patch.{Patch}
use Rattle.reloc_values.proofs.Overlaid.{begun_after}
use Rattle.reloc_values.proofs.Searched.{find-take}
use Rattle.reloc_values.proofs.row_parts.reaching.Goals as goal

pub returns-clause-found : goal.returns-clause-found
returns-clause-found c = λ k low.
    c.ending_after.ensures.found (c.args.from + k) (omega arith)
    ∙ (ap (λ (ps : List Patch). find (covers (c.args.from + k)) ps) c.split_at.ensures.front
    ∙ find-take (covers (c.args.from + k)) c.count_begun.result c.args.row.now
    (λ i d behind within. begun_after (c.args.from + k) (c.args.from + c.args.count) (get_or c.args.row.now i d) (c.count_begun.ensures.not_yet i d behind within) (omega (arith, low))))
