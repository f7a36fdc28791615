use Rattle.std.proofs.Common.{subst, sym}
use Rattle.std.specs.Prelude.{All}
use Rattle.std.proofs.lemmas.List.Elements.{All-cons, All-tail}
use Rattle.linkmap.specs.Borrowed.{symbol_row}
use Rattle.check_tables.specs.Listed.{IsLine}
use Rattle.check_tables.proofs.c13_symbols.are_right_lines.Goals as goal

pub loop-line-preserved : goal.loop-line-preserved
loop-line-preserved c =
    let P = IsLine c.args.bindings.now.objects c.args.bindings.now.places in
    let row = symbol_row c.in-Some.line in
    let rest = c.next.new.self in
    let here = c.is_right_by.ensures.0 c.if-not-is_right_by.false in (
      λ h. All-tail P row rest (subst (All P) c.in-Some.ensures.steps (c.loop-line.invariant.0 h)),
      λ r. c.loop-line.invariant.1 (subst (All P) (sym c.in-Some.ensures.steps) (All-cons P row rest here r)),
    )
