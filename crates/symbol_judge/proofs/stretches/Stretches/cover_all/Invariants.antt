use Rattle.std.proofs.Common.{drop}
use Rattle.std.specs.Prelude.{All}
use Rattle.elf_model.proofs.Rests.{Left}
use Rattle.check_link.specs.Views.{placed_view}
use Rattle.symbol_judge.specs.Stretches.{IsCovered}
use Rattle.symbol_judge.proofs.stretches.Stretches.cover_all.Given as goal

abbrev pub invariant-loop-q : goal.invariant-loop-q
invariant-loop-q l = Left (All (λ q. IsCovered l.self (placed_view q)) l.placed) (All (λ q. IsCovered l.self (placed_view q)) (drop l.q-index l.placed))
