use Rattle.std.proofs.Common.{ℕ}
use Rattle.elf_model.specs.Link.Relocation.{symbol_at}
use Rattle.search.specs.Views.{loaded_view}
use Rattle.relocate.specs.SymbolTables.{IsValueOf}
use Rattle.relocate.specs.Values.{where_in}
use Rattle.relocate.proofs.SymbolTables.{counted_more, tells_more}
use Rattle.relocate.proofs.symbol_values.table_of.Goals as goal

pub loop-j-preserved : goal.loop-j-preserved
loop-j-preserved c =
    let grown = c.in_ok-push.ensures.items in
    let o = loaded_view c.args.loaded.now in
    record {
      count = counted_more (λ (j : ℕ). IsValueOf c.args.resolved.now (where_in c.args.placement.now) (symbol_at c.args.number o j)) c.loop-j.table.items c.push.new.self.items c.value_of_symbol.result c.loop-j.j grown c.loop-j.invariant.count;
      each =
          tells_more (λ (j : ℕ). IsValueOf c.args.resolved.now (where_in c.args.placement.now) (symbol_at c.args.number o j)) c.loop-j.table.items c.push.new.self.items c.value_of_symbol.result c.loop-j.j grown c.loop-j.invariant.count
          c.loop-j.invariant.each c.value_of_symbol.ensures;
    }
