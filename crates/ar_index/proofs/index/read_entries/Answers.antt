use Rattle.std.proofs.Common.{◌≡◌, ◌+◌, ◌*◌, ℕ, List, drop, ap, sym, subst, ◌∙◌, arith}
use Rattle.std.proofs.lemmas.Bool.{false≢true}
use Rattle.elf_model.specs.Inputs.ArchiveFile.{AreTexts, entries_from, index_strings}
use Rattle.ar_index.proofs.IndexSteps.{all_read, none_read, others_left, read_more, text_missing, zeros_by_place, zeros_left}
use Rattle.ar_index.proofs.index.read_entries.Goals as goal

pub loop-i-init : goal.loop-i-init
loop-i-init c =
    none_read c.args.width c.args.index.now c.args.count c.in_ok-entries.entries.items c.split_at.result.1.now c.in_ok-entries.ensures.items
    (c.split_at.ensures.back ∙ ap (drop (c.args.width + c.args.width * c.args.count)) c.bytes.ensures)

pub returns-in_default-first_text-clause-fault : goal.returns-in_default-first_text-clause-fault
returns-in_default-first_text-clause-fault c texts =
    let strings : index_strings c.args.width c.args.index.now ≡ drop (c.args.width + c.args.width * c.args.count) c.args.index.now =
    ap (λ (n : ℕ). drop (c.args.width + c.args.width * n) c.args.index.now) (sym c.requires.count)
    in
    text_missing c.args.width c.args.index.now c.args.count c.loop-i.i c.loop-i.entries.items c.loop-i.rest.now c.loop-i-test.true c.loop-i.invariant
    c.in_default-first_text.ensures (subst (AreTexts c.args.count) strings texts)

pub loop-i-preserved : goal.loop-i-preserved
loop-i-preserved c =
    let text = c.in-Some-first_text.ensures in
    read_more c.args.width c.args.index.now c.args.count c.loop-i.i c.loop-i.entries.items c.loop-i.rest.now c.loop-i-test.true c.loop-i.invariant
    c.push.new.self.items _ c.in-Some-first_text.after.now text.0 (ap (λ (p : List ℕ × List ℕ). p.0) text.1) c.in-Some.ensures.1 (ap (λ (p : List ℕ × List ℕ). p.1) text.1)
    c.in_ok-push.ensures.items

pub returns-then-not-all_byte-clause-fault : goal.returns-then-not-all_byte-clause-fault
returns-then-not-all_byte-clause-fault c texts =
    let strings : index_strings c.args.width c.args.index.now ≡ drop (c.args.width + c.args.width * c.args.count) c.args.index.now =
    ap (λ (n : ℕ). drop (c.args.width + c.args.width * n) c.args.index.now) (sym c.requires.count)
    in
    others_left c.args.width c.args.index.now c.args.count c.loop-i.i c.loop-i.entries.items c.loop-i.rest.now (omega arith) c.loop-i.invariant
    (λ zeros. false≢true (sym c.if-not-all_byte.true ∙ c.all_byte.ensures.1 (λ k within. zeros k 0 within))) (subst (AreTexts c.args.count) strings texts)

pub returns-clause-entries : goal.returns-clause-entries
returns-clause-entries c =
    all_read c.args.width c.args.index.now c.args.count c.loop-i.i c.loop-i.entries.items c.loop-i.rest.now (omega arith) c.loop-i.invariant
    ∙ ap (λ (n : ℕ). entries_from n c.args.width (drop c.args.width c.args.index.now) (drop (c.args.width + c.args.width * n) c.args.index.now)) c.requires.count

pub returns-clause-texts : goal.returns-clause-texts
returns-clause-texts c =
    let strings : drop (c.args.width + c.args.width * c.args.count) c.args.index.now ≡ index_strings c.args.width c.args.index.now =
    ap (λ (n : ℕ). drop (c.args.width + c.args.width * n) c.args.index.now) c.requires.count
    in
    subst (AreTexts c.args.count) strings
    (zeros_left c.args.width c.args.index.now c.args.count c.loop-i.i c.loop-i.entries.items c.loop-i.rest.now (omega arith) c.loop-i.invariant
    (zeros_by_place c.loop-i.rest.now (c.all_byte.ensures.0 c.if-not-all_byte.false)))
