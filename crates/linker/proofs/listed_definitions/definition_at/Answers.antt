use Rattle.std.proofs.Common.{◌∙◌, ◌-◌, ℕ, [], ap, arith, get_or}
use Rattle.elf_model.specs.Link.Meaning.{Linker}
use Rattle.elf_model.specs.declared.bound.Bound.TheVariants.{ImageStart}
use Rattle.relocate.specs.Uses.{line_views}
use Rattle.resolve.specs.Chosen.{defined_in}
use Rattle.resolve.specs.Views.{symbol_view}
use Rattle.linker.proofs.InOrderLaws.{at_line, at_symbol}
use Rattle.linker.proofs.listed_definitions.definition_at.Goals as goal

pub returns-then-position-count : goal.returns-then-position-count
returns-then-position-count c =
    c.meant.ensures ∙ at_symbol c.args.resolved.now (defined_in c.args.names.symbols) (line_views c.args.names.linkers.now) c.args.position (symbol_view c.at.result) c.at.ensures

pub returns : goal.returns
returns c =
    let lines = line_views c.args.names.linkers.now in
    c.linker_at.ensures
    ∙ (ap (λ (n : ℕ). get_or lines (c.args.position - n) (Linker [] ImageStart)) c.len-count.ensures
    ∙ at_line c.args.resolved.now (defined_in c.args.names.symbols) lines c.args.position (omega (arith, c.if-position-count.false, c.len-count.ensures)))
