use Rattle.std.proofs.Common.{◌-◌, ◌∙◌, List, ℕ, ap, sym, arith}
use Rattle.byteview.specs.Numbers.{part}
use Rattle.std.proofs.lemmas.Bool.{false≢true}
use Rattle.ar_index.proofs.LongTexts.{limit_found, limit_none, none_at_all, none_more}
use Rattle.ar_index.proofs.names.text_limit.Goals as goal

pub loop-end-init : goal.loop-end-init
loop-end-init c = record { within = omega arith; none = none_at_all c.args.names.now }

pub loop-end-preserved : goal.loop-end-preserved
loop-end-preserved c =
    let part_is = c.part.ensures.exact ∙ ap (λ (bs : List ℕ). part bs (c.loop-end.end - 2) 2) c.new-view.ensures in
    record {
      within = omega (arith, c.loop-end.invariant.within);
      none = none_more c.args.names.now c.loop-end.end c.loop-end.invariant.none c.loop-end-test.true
          (λ is. false≢true (sym c.if-equal_run.false ∙ c.equal_run.ensures.1 (part_is ∙ is)));
    }

pub returns-then-equal_run : goal.returns-then-equal_run
returns-then-equal_run c =
    let part_is = c.part.ensures.exact ∙ ap (λ (bs : List ℕ). part bs (c.loop-end.end - 2) 2) c.new-view.ensures in
    limit_found c.args.names.now c.loop-end.end c.loop-end.invariant.none c.loop-end-test.true
    (sym part_is ∙ c.equal_run.ensures.0 c.if-equal_run.true)

pub returns : goal.returns
returns c = limit_none c.args.names.now c.loop-end.end c.loop-end.invariant.none (omega arith)
