use Rattle.std.proofs.Common.{List, ap, arith, length, refl, sym, ◌∙◌}
use Rattle.elf_model.specs.Link.UsedNames.{is_linker_use}
use Rattle.elf_model.specs.declared.records.Symbol.{Symbol}
use Rattle.search.specs.Views.{loaded_view}
use Rattle.got_tls.proofs.NoSymbols.{none_at_all, none_more}
use Rattle.relocate.proofs.linker_uses.has_linker_use.Goals as goal

pub returns-then-not-named : goal.returns-then-not-named
returns-then-not-named c = λ e j.
    c.requires.named c.if-not-named.true c.args.number (loaded_view c.args.loaded.now) c.requires.here j

pub loop-j-preserved : goal.loop-j-preserved
loop-j-preserved c =
    none_more (is_linker_use c.args.resolved.now) c.args.number (loaded_view c.args.loaded.now) c.loop-j.j c.loop-j.invariant (sym c.is_linker_use.ensures ∙ c.if-is_linker_use.false)

pub returns : goal.returns
returns c =
    let there = c.len-j-end.ensures ∙ ap (λ (ss : List Symbol). length ss) c.symbols.ensures in
    let end = c.loop-j-test.false in
    λ e. none_at_all (is_linker_use c.args.resolved.now) c.args.number (loaded_view c.args.loaded.now) (λ j. refl) c.loop-j.j (omega (arith, there, end)) c.loop-j.invariant
