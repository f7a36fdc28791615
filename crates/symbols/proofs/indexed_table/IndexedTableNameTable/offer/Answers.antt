use Rattle.std.proofs.Common.{rules, ◌∙◌, ap}
use Rattle.std.specs.Prelude.{List, unwrap_or}
use Rattle.indexmap.specs.Entry.{map_with_value}
use Rattle.symbols.specs.Lists.{NamedRow, row_in}
use Rattle.symbols.specs.Rows.{no_row, offered}
use Rattle.symbols.proofs.HashedRows.{written_offered}
use Rattle.symbols.proofs.indexed_table.IndexedTableNameTable.offer.Goals as goal

pub returns-clause-taken : goal.returns-clause-taken
returns-clause-taken g c =
    let had = c.or_insert-row.ensures.value ∙ ap (λ r. unwrap_or r no_row) c.in_ok-self-inside.ensures.value in
    written_offered c.self.inside.rows (map_with_value c.in_ok-self-inside.field-0) (record { 0 = c.args.name }) c.args.candidate _ _ _
    c.in_ok-self-inside.ensures.update.0 had c.take_in.ensures (search rules)
    ∙ ap (λ (es : List NamedRow). offered c.args.name.now c.args.candidate (row_in es)) c.self.view_is
