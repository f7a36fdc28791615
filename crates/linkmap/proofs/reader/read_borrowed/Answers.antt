use Rattle.std.proofs.Common.{ap, length, refl, sym, subst, ◌+◌, arith}
use Rattle.std.proofs.lemmas.Bool.{false≢true}
use Rattle.elf_model.specs.Image.MapRecord.{MapRecord}
use Rattle.linkmap.specs.Record.{record_of}
use Rattle.elf_model.specs.Image.MapText.{End}
use Rattle.linkmap.specs.Order.{row}
use Rattle.linkmap.specs.Reading.{line_at}
use Rattle.linkmap.proofs.Parsers.{Took}
use Rattle.linkmap.proofs.ReadLaws.{Reading, start, no_first, bad_line, misplaced, found, behind_end, one_more, line_shorter, first_shorter, fails_bad, took_end, nothing_left, something_left, read_same}
use Rattle.linkmap.proofs.reader.read_borrowed.Goals as goal

pub returns-in_default-clause-fault : goal.returns-in_default-clause-fault
returns-in_default-clause-fault c =
    no_first c.args.bytes.now (sym c.in_default.ensures)

pub returns-in_default-clause-only : goal.returns-in_default-clause-only
returns-in_default-clause-only c m h e =
    let wrong = no_first c.args.bytes.now (sym c.in_default.ensures) in
    absurd (wrong.no_map m h e)

pub returns-in-Err-Bad-clause-fault : goal.returns-in-Err-Bad-clause-fault
returns-in-Err-Bad-clause-fault c =
    bad_line (record_of c.lines.map) c.args.bytes.now c.lines.rest.now c.lines.number c.lines.invariant.reading (fails_bad _ _ c.in-Err-Bad.field-0-is c.in-Err-Bad.ensures.line)

pub returns-in-Err-Bad-clause-only : goal.returns-in-Err-Bad-clause-only
returns-in-Err-Bad-clause-only c m h e =
    let wrong = bad_line (record_of c.lines.map) c.args.bytes.now c.lines.rest.now c.lines.number c.lines.invariant.reading (fails_bad _ _ c.in-Err-Bad.field-0-is c.in-Err-Bad.ensures.line) in
    absurd (wrong.no_map m h e)

pub returns-then-not-is_empty-clause-fault : goal.returns-then-not-is_empty-clause-fault
returns-then-not-is_empty-clause-fault c =
    behind_end (record_of c.lines.map) c.args.bytes.now c.lines.rest.now c.lines.number c.lines.invariant.reading c.in-Ok.found.1.now (took_end _ _ _ c.in-Ok.ensures.line (c.if-is_end.ensures.0 refl)) (something_left _ c.if-not-is_empty.ensures)

pub returns-then-not-is_empty-clause-only : goal.returns-then-not-is_empty-clause-only
returns-then-not-is_empty-clause-only c m h e =
    let wrong = behind_end (record_of c.lines.map) c.args.bytes.now c.lines.rest.now c.lines.number c.lines.invariant.reading c.in-Ok.found.1.now (took_end _ _ _ c.in-Ok.ensures.line (c.if-is_end.ensures.0 refl)) (something_left _ c.if-not-is_empty.ensures) in
    absurd (wrong.no_map m h e)

pub returns-then-not-may_stand-clause-fault : goal.returns-then-not-may_stand-clause-fault
returns-then-not-may_stand-clause-fault c =
    misplaced (record_of c.lines.map) c.args.bytes.now c.lines.rest.now c.lines.number c.lines.invariant.reading (row c.in-Ok.found.0) c.in-Ok.found.1.now c.in-Ok.ensures.line (λ s. false≢true (c.if-not-may_stand.ensures.1 s)) (λ e. false≢true (c.if-is_end.ensures.1 e))

pub returns-then-not-may_stand-clause-only : goal.returns-then-not-may_stand-clause-only
returns-then-not-may_stand-clause-only c m h e =
    let wrong = misplaced (record_of c.lines.map) c.args.bytes.now c.lines.rest.now c.lines.number c.lines.invariant.reading (row c.in-Ok.found.0) c.in-Ok.found.1.now c.in-Ok.ensures.line (λ s. false≢true (c.if-not-may_stand.ensures.1 s)) (λ e. false≢true (c.if-is_end.ensures.1 e)) in
    absurd (wrong.no_map m h e)

pub returns-then-is_end-clause-found : goal.returns-then-is_end-clause-found
returns-then-is_end-clause-found c =
    (c.lines.invariant.reading.is_map, found (record_of c.lines.map) c.args.bytes.now c.lines.rest.now c.lines.number c.lines.invariant.reading (subst (λ left. Took (line_at c.lines.rest.now) End left) (nothing_left _ c.if-not-is_empty.ensures) (took_end _ _ _ c.in-Ok.ensures.line (c.if-is_end.ensures.0 refl))))

pub returns-then-is_end-clause-only : goal.returns-then-is_end-clause-only
returns-then-is_end-clause-only c m h e =
    let own = found (record_of c.lines.map) c.args.bytes.now c.lines.rest.now c.lines.number c.lines.invariant.reading (subst (λ left. Took (line_at c.lines.rest.now) End left) (nothing_left _ c.if-not-is_empty.ensures) (took_end _ _ _ c.in-Ok.ensures.line (c.if-is_end.ensures.0 refl))) in
    read_same (record_of c.lines.map) m c.args.bytes.now c.lines.invariant.reading.is_map own h e

pub lines-init : goal.lines-init
lines-init c =
    let first = sym c.in-Some.ensures in
    record {
      reading = subst (λ (m : MapRecord). Reading m c.args.bytes.now c.in-Some.rest.now 2) (sym c.empty-map.ensures) (start c.in-Some.version c.args.bytes.now c.in-Some.rest.now first);
      within = first_shorter c.in-Some.version c.args.bytes.now c.in-Some.rest.now first;
      here = λ some. absurd (omega (arith, some, ap (λ (m : MapRecord). length m.symbols) c.empty-map.ensures));
    }

pub lines-smaller : goal.lines-smaller
lines-smaller c = line_shorter c.lines.rest.now (row c.in-Ok.found.0) c.in-Ok.found.1.now c.in-Ok.ensures.line

pub lines-preserved : goal.lines-preserved
lines-preserved c =
    let shorter = line_shorter c.lines.rest.now (row c.in-Ok.found.0) c.in-Ok.found.1.now c.in-Ok.ensures.line in
    record {
      reading = subst (λ (m : MapRecord). Reading m c.args.bytes.now c.in-Ok.found.1.now (c.lines.number + 1)) (sym c.in_ok-add_line.ensures.added)
          (one_more (record_of c.lines.map) c.args.bytes.now c.lines.rest.now c.lines.number c.lines.invariant.reading (row c.in-Ok.found.0) c.in-Ok.found.1.now c.in-Ok.ensures.line (c.if-not-may_stand.ensures.0 refl));
      within = omega (arith, shorter, c.lines.invariant.within);
      here = c.in_ok-add_line.ensures.here;
    }
