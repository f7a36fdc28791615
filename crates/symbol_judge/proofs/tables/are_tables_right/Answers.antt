use Rattle.std.proofs.Common.{◌∙◌, List, ap, rules, subst, sym, ℕ}
use Rattle.std.specs.Prelude.{IsSome}
use Rattle.judge_model.specs.Tables.{HasTables}
use Rattle.link_fields.specs.Parts.{Parts}
use Rattle.table_judge.specs.Sections.{HasTable}
use Rattle.symbol_judge.proofs.tables.are_tables_right.Goals as goal

pub returns-in_ok-right-in-Some : goal.returns-in_ok-right-in-Some
returns-in_ok-right-in-Some c = λ l parts words.
    let image = ap (λ (q : Parts). q.image) parts ∙ sym (ap (λ (q : Parts). q.image) c.parts.view_is) in
    let read = c.in_ok-right-in-Some.ensures l parts words in
    let has = subst (λ (bytes : List ℕ). HasTables bytes) (sym image) (c.has_tables.ensures.0 c.if-not-has_tables.false) in
    let there : IsSome c.in_ok-read.read = search rules in
    let inside = subst (λ (bytes : List ℕ). HasTable bytes) (sym image) (c.in_ok-read.ensures.some.0 there) in (
      λ t tables.
          let r = read.0 t in
          record { inside = inside; sections_are = r.sections_are; covered = r.covered; symbols_are = r.symbols_are },
      λ h.
          let a = h has in
          read.1 (record { sections_are = a.sections_are; covered = a.covered; symbols_are = a.symbols_are }),
    )
