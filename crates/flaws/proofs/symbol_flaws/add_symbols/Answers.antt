use Rattle.std.proofs.Common.{ℕ, List, ◌<◌, ◌+◌, drop, subst}
use Rattle.elf_model.specs.Inputs.ObjectFile.{null_symbol}
use Rattle.elf_model.specs.Link.Resolution.{symbol_of, symbols_from}
use Rattle.elf_model.specs.declared.records.Symbol.{Symbol}
use Rattle.search.specs.Views.{loaded_view, loaded_views}
use Rattle.resolve.proofs.Walks.{next_symbol}
use Rattle.flaws.specs.Flaws.{AddsSymbol, AreAdded}
use Rattle.flaws.specs.declared.flaw.Flaw.{Flaw}
use Rattle.flaws.proofs.Additions.{one_more}
use Rattle.flaws.proofs.symbol_flaws.add_symbols.Goals as goal

pub loop-j-preserved : goal.loop-j-preserved
loop-j-preserved g c =
    let objects = loaded_views c.args.objects.now in
    let o = loaded_view c.args.one.now in
    let es = c.symbols-entries.result.now in
    let k = c.args.object in
    let j = c.loop-j.j in
    let within = subst (λ (n : ℕ). j < n) c.len-j-end.ensures c.loop-j-test.true in
    one_more (AddsSymbol objects) (AreAdded (AddsSymbol objects) (symbols_from k o 0 es) c.args.flaws.now.items) (symbols_from k o j (drop j es))
    (symbols_from k o (j + 1) (drop (j + 1) es)) c.loop-j.flaws.items c.add_symbol.new.flaws.items c.loop-j.invariant _ (next_symbol k o es j null_symbol within)
    (subst (λ (e : Symbol). AddsSymbol objects (symbol_of k o j e) c.loop-j.flaws.items c.add_symbol.new.flaws.items) c.at.ensures c.in_ok-add_symbol.ensures)
