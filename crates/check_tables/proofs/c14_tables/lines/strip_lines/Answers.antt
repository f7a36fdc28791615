use Rattle.std.proofs.Common.{arith, subst}
use Rattle.std.specs.Prelude.{All}
use Rattle.std.proofs.lemmas.List.Elements.{All-tail}
use Rattle.linkmap.specs.Borrowed.{symbol_row}
use Rattle.elf_model.specs.Image.SymbolTable.{tabled}
use Rattle.check_tables.specs.Listed.{IsLine}
use Rattle.check_tables.proofs.TableLines.{here, later, left_end, left_step, lines_split, names_split}
use Rattle.check_tables.proofs.TableSteps.{empty_told}
use Rattle.check_tables.proofs.c14_tables.lines.strip_lines.Goals as goal

pub returns-in_err-left-clause-left : goal.returns-in_err-left-clause-left
returns-in_err-left-clause-left c =
    let b = c.args.bindings.now in
    let lines = c.loop-line.line-iterator in
    let x = symbol_row c.in-Some.line in
    let rest = c.next.new.self in
    let e = c.in-Some.ensures.steps in
    let l = c.loop-line.left in
    rw c.from_residual.ensures
    (λ others.
    left_step _ _ b.places l.entries.now l.names.now l.name_at (tabled b.objects lines) (here b.objects lines x rest e) (later b.objects lines x rest e) others
    (c.loop-line.invariant.left others) (lines_split b.objects lines x rest e) (c.in_err-left.ensures.left (later b.objects lines x rest e) others))

pub loop-line-preserved : goal.loop-line-preserved
loop-line-preserved c =
    let b = c.args.bindings.now in
    let lines = c.loop-line.line-iterator in
    let x = symbol_row c.in-Some.line in
    let rest = c.next.new.self in
    let e = c.in-Some.ensures.steps in
    let l = c.loop-line.left in
    let names = names_split b.objects lines x rest e in
    let at = c.in_ok-left.ensures.offset in
    let before = c.loop-line.invariant.offset in
    record {
      left = λ others.
          left_step _ _ b.places l.entries.now l.names.now l.name_at (tabled b.objects lines) (here b.objects lines x rest e) (later b.objects lines x rest e) others
          (c.loop-line.invariant.left others) (lines_split b.objects lines x rest e) (c.in_ok-left.ensures.left (later b.objects lines x rest e) others);
      offset = omega (arith, names, at, before);
      lines = All-tail (IsLine b.objects b.places) x rest (subst (All (IsLine b.objects b.places)) e c.loop-line.invariant.lines);
      fits = c.in_ok-left.ensures.fits;
    }

pub returns-then-is_empty-clause-left : goal.returns-then-is_empty-clause-left
returns-then-is_empty-clause-left c = λ others.
    let b = c.args.bindings.now in
    let l = c.loop-line.left in
    left_end _ b.places b.objects c.loop-line.line-iterator c.in-None.ensures.steps.0 l.entries.now l.names.now l.name_at others
    (c.loop-line.invariant.left others)
    ((empty_told _ l.entries.now c.is_empty.ensures).0 c.if-is_empty.true)
    c.loop-line.invariant.fits
