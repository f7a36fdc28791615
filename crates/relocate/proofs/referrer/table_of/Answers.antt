use Rattle.std.proofs.Common.{ℕ}
use Rattle.elf_model.specs.Link.Relocation.{symbol_at}
use Rattle.search.specs.Views.{loaded_view}
use Rattle.relocate.specs.SymbolTables.{IsReference}
use Rattle.relocate.proofs.SymbolTables.{counted_more, tells_more}
use Rattle.relocate.proofs.referrer.table_of.Goals as goal

pub loop-j-preserved : goal.loop-j-preserved
loop-j-preserved c =
    let grown = c.in_ok-push.ensures.items in
    let o = loaded_view c.args.loaded.now in
    record {
      count = counted_more (λ (j : ℕ). IsReference c.args.resolved.now (symbol_at c.args.number o j)) c.loop-j.table.items c.push.new.self.items c.reference_to.result c.loop-j.j grown c.loop-j.invariant.count;
      each =
          tells_more (λ (j : ℕ). IsReference c.args.resolved.now (symbol_at c.args.number o j)) c.loop-j.table.items c.push.new.self.items c.reference_to.result c.loop-j.j grown c.loop-j.invariant.count
          c.loop-j.invariant.each c.reference_to.ensures;
    }
