use Rattle.std.proofs.Common.{◌∙◌, ap, sym}
use Rattle.std.proofs.lemmas.Bool.{false≢true}
use Rattle.link_fields.specs.Parts.{Parts}
use Rattle.name_judge.proofs.RowLaw.{rows_seen}
use Rattle.name_judge.proofs.names.are_names_by.Goals as goal

pub returns-then-not-are_rows_right : goal.returns-then-not-are_rows_right
returns-then-not-are_rows_right c =
    let seen =
    rows_seen c.args.parts.now c.args.marks.now c.args.spans.now c.parts.inside.rows.now c.are_rows_right.result
    (ap (λ (p : Parts). p.rows) (sym c.parts.view_is)) c.are_rows_right.ensures in (
      λ t. absurd (false≢true t),
      λ r. sym c.if-not-are_rows_right.true ∙ seen.1 r.rows,
    )

pub returns : goal.returns
returns c =
    let seen =
    rows_seen c.args.parts.now c.args.marks.now c.args.spans.now c.parts.inside.rows.now c.are_rows_right.result
    (ap (λ (p : Parts). p.rows) (sym c.parts.view_is)) c.are_rows_right.ensures in (
      λ t. record { rows = seen.0 c.if-not-are_rows_right.false; pairs = c.are_pairs_one.ensures.0 t },
      λ r. c.are_pairs_one.ensures.1 r.pairs,
    )
