use Rattle.std.proofs.Common.{subst, sym, ◌∙◌}
use Rattle.std.specs.Prelude.{All}
use Rattle.std.proofs.lemmas.Bool.{false≢true}
use Rattle.check_link.specs.Views.{placed_views}
use Rattle.header_judge.specs.Rights.{AreStacksTold, HasPhysical, HasStack, SparesAll}
use Rattle.header_judge.proofs.headers.are_right_by.Goals as goal

pub returns-then-not-are_physical : goal.returns-then-not-are_physical
returns-then-not-are_physical c = (
  λ t. absurd (false≢true t),
  λ r.
      sym c.if-not-are_physical.true
      ∙ c.are_physical.ensures.1 (subst (All (HasPhysical c.args.physical)) (sym c.headers-headers.ensures) r.physicals),
)

pub returns-then-not-are_stacks : goal.returns-then-not-are_stacks
returns-then-not-are_stacks c = (
  λ t. absurd (false≢true t),
  λ r.
      sym c.if-not-are_stacks.true
      ∙ c.are_stacks.ensures.1 (subst (All (HasStack c.args.may)) (sym c.headers-headers.ensures) r.stacks),
)

pub returns-then-not-are_stacks_told : goal.returns-then-not-are_stacks_told
returns-then-not-are_stacks_told c = (
  λ t. absurd (false≢true t),
  λ r.
      sym c.if-not-are_stacks_told.true
      ∙ c.are_stacks_told.ensures.1 (subst (AreStacksTold c.args.must c.args.may) (sym c.headers-headers.ensures) r.told),
)

pub returns : goal.returns
returns c =
    let e = c.headers-headers.ensures in
    let qs = placed_views c.args.placed.now in (
      λ yes. record {
        program = c.image-program.ensures.program;
        physicals = subst (All (HasPhysical c.args.physical)) e (c.are_physical.ensures.0 c.if-not-are_physical.false);
        spares = subst (All (SparesAll qs)) e (c.do_all_spare.ensures.0 yes);
        stacks = subst (All (HasStack c.args.may)) e (c.are_stacks.ensures.0 c.if-not-are_stacks.false);
        told = subst (AreStacksTold c.args.must c.args.may) e (c.are_stacks_told.ensures.0 c.if-not-are_stacks_told.false);
      },
      λ r. c.do_all_spare.ensures.1 (subst (All (SparesAll qs)) (sym e) r.spares),
    )
