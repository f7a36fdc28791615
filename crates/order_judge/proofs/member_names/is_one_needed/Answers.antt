use Rattle.std.proofs.Common.{◌≡◌, sym, true, ◌∙◌}
use Rattle.std.specs.Prelude.{Any}
use Rattle.std.proofs.lemmas.Bool.{false≢true}
use Rattle.check_load.specs.Loaders.{loaded}
use Rattle.order_judge.specs.MemberNames.{is_name_needed}
use Rattle.order_judge.specs.declared.member_names.MemberName.{MemberName}
use Rattle.order_judge.proofs.NameLaws.{any_more}
use Rattle.order_judge.proofs.member_names.is_one_needed.Goals as goal

pub loop-name-preserved : goal.loop-name-preserved
loop-name-preserved c =
    any_more (Any (λ (n : MemberName). is_name_needed c.args.loader.now.plan.now (loaded c.args.loader.now) n ≡ true) c.args.names.now)
    (λ (n : MemberName). is_name_needed c.args.loader.now.plan.now (loaded c.args.loader.now) n ≡ true) c.args.names.now c.loop-name.name-index _
    c.loop-name-test.true (λ t. false≢true (sym c.if-needs.false ∙ (c.needs.ensures ∙ t))) c.loop-name.invariant
