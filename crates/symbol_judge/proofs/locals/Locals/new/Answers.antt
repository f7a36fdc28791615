use Rattle.std.proofs.Common.{List, subst}
use Rattle.std.specs.Prelude.{IsPermutation}
use Rattle.elf_model.specs.Link.Resolution.{all_symbols}
use Rattle.symbol_judge.specs.declared.locals.Local.{Local}
use Rattle.symbol_judge.proofs.LocalLaws.{keys_are}
use Rattle.symbol_judge.proofs.locals.Locals.new.Goals as goal

pub invariant_of-result : goal.invariant_of-result
invariant_of-result c = record {
  rising = c.in_ok-table.ensures.rising;
  keys =
      keys_are c.args.meanings.now c.args.names.now (all_symbols c.args.meanings.now.objects) c.in_ok-table.table.items
      (subst (λ (xs : List Local). IsPermutation xs c.in_ok-table.table.items) c.in_ok-found_locals.ensures c.in_ok-table.ensures.same);
}
