use Rattle.std.proofs.Common.{List, ap, arith, length, refl, sym, ◌∙◌}
use Rattle.elf_model.specs.Link.Slots.{names_got}
use Rattle.elf_model.specs.declared.records.Symbol.{Symbol}
use Rattle.search.specs.Views.{loaded_view}
use Rattle.got_tls.proofs.NoSymbols.{none_at_all, none_more}
use Rattle.got_tls.proofs.requests.tells_of_got.Goals as goal

pub loop-j-preserved : goal.loop-j-preserved
loop-j-preserved c =
    none_more (names_got c.args.resolved.now) c.args.number (loaded_view c.args.loaded.now) c.loop-j.j c.loop-j.invariant (sym c.names_got.ensures ∙ c.if-names_got.false)

pub returns : goal.returns
returns c =
    let there = c.len-j-end.ensures ∙ ap (λ (ss : List Symbol). length ss) c.symbols.ensures in
    let end = c.loop-j-test.false in
    λ e. none_at_all (names_got c.args.resolved.now) c.args.number (loaded_view c.args.loaded.now) (λ j. refl) c.loop-j.j (omega (arith, there, end)) c.loop-j.invariant
