use Rattle.std.proofs.Common.{◌≡◌, ◌++◌, drop}
use Rattle.resolve.specs.Views.{meaning_views}
use Rattle.relocate.specs.Uses.{line_views}
use Rattle.resolve.specs.Chosen.{defined_in}
use Rattle.linker.specs.InOrder.{meanings_at}
use Rattle.linker.proofs.listed_definitions.InOrder.add_definitions.Given as goal

abbrev pub invariant-loop-key : goal.invariant-loop-key
invariant-loop-key l =
    meaning_views l.listed.items
    ++ meanings_at l.self.resolved.now (defined_in l.self.names.symbols) (line_views l.self.names.linkers.now) (drop l.key-index l.keys)
    ≡ meaning_views l.fn.listed.items ++ meanings_at l.self.resolved.now (defined_in l.self.names.symbols) (line_views l.self.names.linkers.now) l.keys
