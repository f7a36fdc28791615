use Rattle.std.proofs.Common.{◌≡◌, drop, true}
use Rattle.std.specs.Prelude.{Any}
use Rattle.elf_model.proofs.Rests.{Left}
use Rattle.check_load.specs.Loaders.{loaded}
use Rattle.order_judge.specs.MemberNames.{is_name_needed}
use Rattle.order_judge.specs.declared.member_names.MemberName.{MemberName}
use Rattle.order_judge.proofs.member_names.is_one_needed.Given as goal

abbrev pub invariant-loop-name : goal.invariant-loop-name
invariant-loop-name l =
    Left (Any (λ (n : MemberName). is_name_needed l.loader.plan.now (loaded l.loader) n ≡ true) l.names)
    (Any (λ (n : MemberName). is_name_needed l.loader.plan.now (loaded l.loader) n ≡ true) (drop l.name-index l.names))
