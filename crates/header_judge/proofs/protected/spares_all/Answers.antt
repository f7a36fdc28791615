use Rattle.std.proofs.lemmas.List.Elements.{All-map}
use Rattle.elf_model.proofs.Listed.{All-unmap}
use Rattle.check_link.specs.Views.{placed_view}
use Rattle.header_judge.specs.Rights.{IsSpared}
use Rattle.header_judge.proofs.protected.spares_all.Goals as goal

pub returns : goal.returns
returns c = (
  λ yes. record { spares = λ relro. All-map (IsSpared c.args.h.now) placed_view c.args.placed.now (c.are_spared.ensures.0 yes) },
  λ spares.
      c.are_spared.ensures.1
      (All-unmap (IsSpared c.args.h.now) placed_view c.args.placed.now (spares.spares c.if-h-ne-PT_GNU_RELRO.false)),
)
