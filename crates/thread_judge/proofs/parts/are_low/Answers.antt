use Rattle.std.proofs.lemmas.List.Elements.{All-map}
use Rattle.elf_model.proofs.Listed.{All-unmap}
use Rattle.check_link.specs.Views.{placed_view}
use Rattle.judge_model.specs.Placed.{IsLow}
use Rattle.thread_judge.proofs.parts.are_low.Goals as goal

pub returns : goal.returns
returns c = (
  λ yes. All-map IsLow placed_view c.args.placed.now (c.are_all_low.ensures.0 yes),
  λ low. c.are_all_low.ensures.1 (All-unmap IsLow placed_view c.args.placed.now low),
)
