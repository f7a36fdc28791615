use Rattle.std.proofs.Common.{◌∙◌, List, subst}
use Rattle.std.specs.Prelude.{◌↔◌, AllPairs, IfOk, IsTrue}
use Rattle.elf_model.specs.Link.Placement.{AreApart}
use Rattle.elf_model.specs.declared.thing.Thing.{Thing}
use Rattle.place_judge.proofs.apart.are_threads_apart.Goals as goal

pub returns : goal.returns
returns c =
    subst (λ (ts : List Thing). IfOk c.are_apart.result (λ b. IsTrue b ↔ AllPairs AreApart ts)) (c.deref.ensures.value ∙ c.in_ok-ranges.ensures)
    c.are_apart.ensures
