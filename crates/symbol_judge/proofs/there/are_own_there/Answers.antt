use Rattle.std.proofs.Common.{◌<◌, ◌∙◌, List, ap, subst, sym, ℕ}
use Rattle.std.specs.Prelude.{All}
use Rattle.std.proofs.lemmas.Bool.{false≢true}
use Rattle.elf_model.specs.Link.Resolution.{symbol_of, symbols_from}
use Rattle.elf_model.specs.declared.records.Symbol.{Symbol}
use Rattle.check_link.proofs.Walked.{symbol_more, symbol_stop}
use Rattle.check_load.specs.Views.{loaded_view}
use Rattle.symbol_judge.specs.There.{IsThere}
use Rattle.symbol_judge.proofs.there.are_own_there.Goals as goal

pub returns-then-not-is_there : goal.returns-then-not-is_there
returns-then-not-is_there c =
    let P = IsThere c.args.meanings.now.objects c.args.meanings.now.placed c.args.meanings.now.merged c.args.names.now in
    let o = loaded_view c.args.loaded.now in
    let k = c.args.number in
    let es = c.symbols-entries.result.now in
    let is = c.symbol_of-symbol.ensures ∙ ap (λ (e : Symbol). symbol_of k o c.loop-j.j e) c.at.ensures in (
      λ t. absurd (false≢true t),
      λ all. absurd
          (symbol_stop P (All P (symbols_from k o 0 es)) k o es c.loop-j.j _ (subst (λ (n : ℕ). c.loop-j.j < n) c.len-j-end.ensures c.loop-j-test.true)
          c.loop-j.invariant (λ holds. false≢true (sym c.if-not-is_there.true ∙ c.is_there.ensures.1 (subst P (sym is) holds)))
          (subst (λ (xs : List Symbol). All P (symbols_from k o 0 xs)) (sym c.symbols-entries.ensures) all)),
    )

pub loop-j-preserved : goal.loop-j-preserved
loop-j-preserved c =
    let P = IsThere c.args.meanings.now.objects c.args.meanings.now.placed c.args.meanings.now.merged c.args.names.now in
    let o = loaded_view c.args.loaded.now in
    let k = c.args.number in
    let es = c.symbols-entries.result.now in
    let is = c.symbol_of-symbol.ensures ∙ ap (λ (e : Symbol). symbol_of k o c.loop-j.j e) c.at.ensures in
    symbol_more P (All P (symbols_from k o 0 es)) k o es c.loop-j.j _ (subst (λ (n : ℕ). c.loop-j.j < n) c.len-j-end.ensures c.loop-j-test.true)
    c.loop-j.invariant (subst P is (c.is_there.ensures.0 c.if-not-is_there.false))
