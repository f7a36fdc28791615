use Rattle.std.proofs.Common.{◌∙◌, List, subst, sym, ◌<◌}
use Rattle.std.specs.Prelude.{All}
use Rattle.std.proofs.lemmas.Bool.{false≢true}
use Rattle.elf_model.specs.Link.Resolution.{IsSoundSymbol, symbols_from}
use Rattle.elf_model.specs.declared.records.Symbol.{Symbol}
use Rattle.check_load.specs.Views.{loaded_view, loaded_views}
use Rattle.check_link.proofs.Walked.{symbol_more, symbol_stop}
use Rattle.check_link.proofs.symbols.are_sound_in.Goals as goal

pub returns-then-not-is_sound : goal.returns-then-not-is_sound
returns-then-not-is_sound c =
    let P = IsSoundSymbol (loaded_views c.args.objects.now) in
    let o = loaded_view c.args.loaded.now in
    let k = c.args.number in (
      λ t. absurd (false≢true t),
      λ all. absurd (symbol_stop P (All P (symbols_from k o 0 c.symbols-entries.result.now)) k o c.symbols-entries.result.now c.loop-j.j _ (subst (λ n. c.loop-j.j < n) c.len-j-end.ensures c.loop-j-test.true) c.loop-j.invariant
          (λ holds. false≢true (sym c.if-not-is_sound.true ∙ (rw c.at-entry.ensures at c.is_sound.ensures.1) holds))
          (subst (λ (es : List Symbol). All P (symbols_from k o 0 es)) (sym c.symbols-entries.ensures) all)),
    )

pub loop-j-preserved : goal.loop-j-preserved
loop-j-preserved c =
    let P = IsSoundSymbol (loaded_views c.args.objects.now) in
    let o = loaded_view c.args.loaded.now in
    let k = c.args.number in
    symbol_more P (All P (symbols_from k o 0 c.symbols-entries.result.now)) k o c.symbols-entries.result.now c.loop-j.j _ (subst (λ n. c.loop-j.j < n) c.len-j-end.ensures c.loop-j-test.true) c.loop-j.invariant
    ((rw c.at-entry.ensures at c.is_sound.ensures.0) c.if-not-is_sound.false)
