use Rattle.std.proofs.Common.{◌≡◌, ◌++◌, map}
use Rattle.linkmap.proofs.owned.all_owned.Given as goal

abbrev pub invariant-loop-line : goal.invariant-loop-line
invariant-loop-line g l = record {
  rows : map g.T.IntoOwned.owned_view l.owned.items ≡ map g.T.IntoOwned.line_view l.yielded;
  rest : l.yielded ++ l.line-iterator.rest.items ≡ l.fn.lines.items;
}
