use Rattle.std.proofs.Common.{Option, subst}
use Rattle.std.specs.Prelude.{◌↔◌, IsSomeAnd, IsTrue}
use Rattle.elf_model.specs.Link.Relocation.{Kind}
use Rattle.field_judge.specs.Given.{IsRightIn}
use Rattle.field_judge.proofs.rewritten.is_of_kind.Goals as goal

pub returns-in-Some : goal.returns-in-Some
returns-in-Some c = λ g given.
    subst (λ (o : Option Kind). IsTrue c.is_right.result ↔ IsSomeAnd o (IsRightIn c.args.image.now c.args.taken.now g)) c.in-Some.ensures.kind
    (c.is_right.ensures g given)
