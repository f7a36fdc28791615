use Rattle.std.proofs.Common.{◌∙◌, ap, arith, refl, subst, sym}
use Rattle.elf_model.specs.Image.MapText.{Ascends, SymbolBefore}
use Rattle.elf_model.specs.Image.RightLink.{Subject}
use Rattle.elf_model.specs.declared.verdict.Clause.TheVariants.{C13}
use Rattle.check_relocs.specs.Bindings.{Bound}
use Rattle.check_tables.proofs.TableClause.{are_wanted, lines_are, places_at}
use Rattle.check_tables.proofs.c14_tables.places_if_tables.Goals as goal

pub strip_tables-requires-clause-lines : goal.strip_tables-requires-clause-lines
strip_tables-requires-clause-lines c =
    let s = c.behind-bound.view_is ∙ c.link.ensures in
    let rows = ap (λ (t : Subject). t.map.symbols) s in
    lines_are c.args.bound.now c.bindings.result.now _ c.bindings.ensures rows
    (subst (λ (t : Subject). Ascends SymbolBefore t.map.symbols) s c.behind-bound.invariant.0.ordered.symbols)
    (c.requires.clauses C13 (omega arith))

pub strip_tables-requires-clause-choices : goal.strip_tables-requires-clause-choices
strip_tables-requires-clause-choices c = c.requires.choices ∙ sym (ap (λ (b : Bound). b.objects) c.bindings.ensures)

pub returns-then-are_end-clause-tables : goal.returns-then-are_end-clause-tables
returns-then-are_end-clause-tables c =
    let rows = ap (λ (t : Subject). t.map.symbols) (c.behind-bound.view_is ∙ c.link.ensures) in
    let wanted =
    are_wanted c.args.bound.now c.bindings.result.now _ c.args.bytes.now c.args.count c.args.end c.eight_up.result
    c.bindings.ensures rows c.requires.end c.eight_up.ensures c.in_ok-left.left.names.now c.in_ok-left.left.name_at c.places_of-places.result
    c.in_ok-left.ensures.left c.in_ok-left.ensures.offset c.places_of-places.ensures.places (c.are_end.ensures.0 c.if-are_end.true) in (
      λ _. wanted,
      λ _. refl,
    )

pub returns-then-are_end-clause-places : goal.returns-then-are_end-clause-places
returns-then-are_end-clause-places c =
    let rows = ap (λ (t : Subject). t.map.symbols) (c.behind-bound.view_is ∙ c.link.ensures) in
    places_at c.args.bound.now c.bindings.result.now _ c.args.bytes.now c.args.count c.args.end c.eight_up.result
    c.bindings.ensures rows c.requires.end c.eight_up.ensures c.in_ok-left.left.names.now c.in_ok-left.left.name_at c.places_of-places.result
    c.in_ok-left.ensures.left c.in_ok-left.ensures.offset c.places_of-places.ensures.places
