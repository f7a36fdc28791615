use Rattle.elf_model.specs.Link.Slots.{names_got}
use Rattle.search.specs.Views.{loaded_view}
use Rattle.got_tls.proofs.NoSymbols.{NoneBelow}
use Rattle.got_tls.proofs.requests.tells_of_got.Given as goal

abbrev pub invariant-loop-j : goal.invariant-loop-j
invariant-loop-j l = NoneBelow (names_got l.resolved) l.number (loaded_view l.loaded) l.j
