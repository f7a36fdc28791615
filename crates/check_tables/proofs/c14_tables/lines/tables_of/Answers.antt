use Rattle.std.proofs.Common.{◌*◌, ◌≤◌, arith, length}
use Rattle.check_tables.proofs.TableParts.{left_of, no_entries, no_names, tables_from, too_many}
use Rattle.check_tables.proofs.c14_tables.lines.tables_of.Goals as goal

pub returns-then-count-bytes-clause-tables : goal.returns-then-count-bytes-clause-tables
returns-then-count-bytes-clause-tables c = λ w ms others. (
  λ a. too_many w ms c.args.bytes.now c.args.count others (let m = c.if-count-bytes.true in omega (arith, m)) a,
  λ never. absurd never,
)

pub returns-in_err-strip_symbol-clause-tables : goal.returns-in_err-strip_symbol-clause-tables
returns-in_err-strip_symbol-clause-tables c = λ w ms others.
    rw c.from_residual.ensures (
      λ a. no_entries c.args.bytes.now _ _ c.args.count c.split_at.ensures.front c.split_at.ensures.back
          (let f = c.if-count-bytes.false in omega (arith, f)) w ms others c.in_err-strip_symbol.ensures a,
      λ never. absurd never,
    )

pub returns-in_err-strip-clause-tables : goal.returns-in_err-strip-clause-tables
returns-in_err-strip-clause-tables c = λ w ms others.
    rw c.from_residual-in_err-strip.ensures (
      λ a. no_names c.args.bytes.now _ _ c.args.count c.split_at.ensures.front c.split_at.ensures.back
          (let f = c.if-count-bytes.false in omega (arith, f)) w ms others c.in_err-strip.ensures a,
      λ never. absurd never,
    )

pub returns-clause-tables : goal.returns-clause-tables
returns-clause-tables c = λ w ms others.
    let fits : 24 * c.args.count ≤ length c.args.bytes.now = let f = c.if-count-bytes.false in omega (arith, f) in (
      λ a. left_of c.args.bytes.now _ _ c.args.count c.split_at.ensures.front c.split_at.ensures.back fits w ms others
          c.in_ok-strip_symbol.field-0 c.in_ok-strip.field-0 c.in_ok-strip_symbol.ensures c.in_ok-strip.ensures a,
      λ l. tables_from c.args.bytes.now _ _ c.args.count c.split_at.ensures.front c.split_at.ensures.back fits w ms others
          c.in_ok-strip_symbol.field-0 c.in_ok-strip.field-0 c.in_ok-strip_symbol.ensures c.in_ok-strip.ensures l,
    )
