use Rattle.elf_model.specs.Link.UsedNames.{is_linker_use}
use Rattle.search.specs.Views.{loaded_view}
use Rattle.got_tls.proofs.NoSymbols.{NoneBelow}
use Rattle.relocate.proofs.linker_uses.has_linker_use.Given as goal

abbrev pub invariant-loop-j : goal.invariant-loop-j
invariant-loop-j l = NoneBelow (is_linker_use l.resolved) l.number (loaded_view l.loaded) l.j
