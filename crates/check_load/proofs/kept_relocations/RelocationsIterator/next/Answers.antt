use Rattle.std.proofs.Common.{◌++◌, List, ap, length, sym, ◌∙◌, arith}
use Rattle.check_load.specs.KeptRelocations.{relocations_of_relas}
use Rattle.check_load.specs.declared.kept_relocations.KeptRelocation.{KeptRelocation}
use Rattle.check_load.proofs.KeptRelocationLaws.{rela_begun}
use Rattle.check_load.proofs.kept_relocations.RelocationsIterator.next.Goals as goal

pub loop-relocation-preserved : goal.loop-relocation-preserved
loop-relocation-preserved c =
    let s = c.loop-relocation.self-inside in
    rela_begun s.object.now s.entries c.new-self-inside.result c.in_ok-first.first.now s.relas.now c.in_ok-first.others.now _ c.in_default.ensures.steps.0 c.in_ok-first.ensures.cases.0
    c.new-self-inside.ensures c.loop-relocation.invariant

pub returns-in-Some-clause-steps : goal.returns-in-Some-clause-steps
returns-in-Some-clause-steps c =
    let s = c.loop-relocation.self-inside in
    sym c.loop-relocation.invariant
    ∙ ap (λ (rs : List KeptRelocation). rs ++ relocations_of_relas s.object.now s.relas.now) c.in-Some.ensures.steps

pub returns-in-Some-clause-goes : goal.returns-in-Some-clause-goes
returns-in-Some-clause-goes c =
    let longer = ap length (returns-in-Some-clause-steps c) in
    record {
      on = λ _. (tt, tt, omega (arith, longer));
      keeps = tt;
      rests = λ _. tt;
    }
