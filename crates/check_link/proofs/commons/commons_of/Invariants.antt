use Rattle.std.proofs.Common.{◌≡◌, ◌++◌, drop}
use Rattle.std.specs.Prelude.{filter}
use Rattle.elf_model.specs.Link.Commons.{is_common_symbol}
use Rattle.check_link.specs.Views.{symbol_views}
use Rattle.check_link.proofs.commons.commons_of.Given as goal

abbrev pub invariant-loop-i : goal.invariant-loop-i
invariant-loop-i l = symbol_views l.found.items ++ filter is_common_symbol (drop l.i l.definitions) ≡ filter is_common_symbol l.definitions
