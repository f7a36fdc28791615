use Rattle.std.proofs.Common.{◌∙◌, List, ap, sym}
use Rattle.std.specs.List.{slice_get}
use Rattle.elf_model.specs.Link.Resolution.{SymbolOf}
use Rattle.resolve.specs.Views.{symbol_view}
use Rattle.relocate.specs.Values.{where_in}
use Rattle.relocate.proofs.ChosenValues.{Tells, told}
use Rattle.relocate.proofs.SymbolTables.{counted_more, tells_more}
use Rattle.relocate.proofs.symbol_values.all_chosen.Goals as goal

pub loop-i-preserved : goal.loop-i-preserved
loop-i-preserved c =
    let grown = c.in_ok-push.ensures.items in
    let objects = c.args.resolved.now in
    let w = where_in c.args.placement.now in
    record {
      count = counted_more (Tells objects w) c.loop-i.values.items c.push.new.self.items c.worth_of.result c.loop-i.i grown c.loop-i.invariant.count;
      each =
          tells_more (Tells objects w) c.loop-i.values.items c.push.new.self.items c.worth_of.result c.loop-i.i grown c.loop-i.invariant.count
          c.loop-i.invariant.each
          (told objects w c.loop-i.i (symbol_view c.at.result) c.worth_of.result
          (sym (ap (λ (ss : List SymbolOf). slice_get ss c.loop-i.i) c.definitions-definitions.ensures.exact) ∙ c.at.ensures) c.worth_of.ensures);
    }
