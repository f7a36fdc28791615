use Rattle.std.proofs.Common.{◌∙◌, List, ap, length, subst, sym, ℕ}
use Rattle.std.proofs.lemmas.Bool.{false≢true}
use Rattle.elf_model.specs.Inputs.ObjectFile.{LiesInside, symbol_table}
use Rattle.check_link.specs.Views.{placed_views}
use Rattle.judge_model.specs.Tables.{image_sections}
use Rattle.link_fields.specs.Parts.{Parts}
use Rattle.symbol_judge.proofs.StretchLaws.{covered_iff}
use Rattle.symbol_judge.proofs.TableLaws.{sections_of, table_lies}
use Rattle.symbol_judge.proofs.tables.are_read_right.Goals as goal

pub returns-then-not-branch : goal.returns-then-not-branch
returns-then-not-branch c = λ l parts words.
    let sections = ap (λ (q : Parts). image_sections q.image) parts ∙ sym c.requires in
    let placed = ap (λ (q : Parts). q.placed) parts ∙ sym (c.placed.ensures ∙ ap (λ (q : Parts). q.placed) c.parts.view_is) in
    let law = covered_iff l c.args.sections.now (placed_views c.placed.result.now) sections placed in (
      λ t. absurd (false≢true t),
      λ r. absurd (false≢true (sym c.if-not-branch.true ∙ c.in_ok-are_covered.ensures.1 (law.1 r.covered))),
    )

pub are_symbols_right-requires : goal.are_symbols_right-requires
are_symbols_right-requires c =
    subst (λ (bytes : List ℕ). LiesInside (length bytes) (symbol_table c.args.sections.now)) (ap (λ (q : Parts). q.image) c.parts.view_is)
    (table_lies c.parts.inside.image.now c.args.sections.now (c.are_sections_true.ensures.0 c.if-not-are_sections_true.false))

pub returns : goal.returns
returns c = λ l parts words.
    let image = ap (λ (q : Parts). q.image) parts ∙ sym (ap (λ (q : Parts). q.image) c.parts.view_is) in
    let sections = ap (λ (q : Parts). image_sections q.image) parts ∙ sym c.requires in
    let placed = ap (λ (q : Parts). q.placed) parts ∙ sym (c.placed.ensures ∙ ap (λ (q : Parts). q.placed) c.parts.view_is) in
    let law = covered_iff l c.args.sections.now (placed_views c.placed.result.now) sections placed in
    let symbols = c.in_ok-right.ensures l parts sections words in (
      λ t. record {
        sections_are =
            sections_of l c.parts.inside.image.now c.args.sections.now image sections
            (c.are_sections_true.ensures.0 c.if-not-are_sections_true.false);
        covered = law.0 (c.in_ok-are_covered.ensures.0 c.if-not-branch.false);
        symbols_are = symbols.0 t;
      },
      λ r. symbols.1 r.symbols_are,
    )
