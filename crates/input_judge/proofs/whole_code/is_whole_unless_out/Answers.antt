use Rattle.std.proofs.Common.{◌∙◌, arith, refl, sym}
use Rattle.check_load.specs.KeptRelocations.{relocation_at}
use Rattle.elf_model.specs.Inputs.ObjectFile.{symbols}
use Rattle.input_judge.proofs.WholeLaws.{out_of, untold, whole_by}
use Rattle.input_judge.proofs.whole_code.is_whole_unless_out.Goals as goal

pub returns-then-front_of-eq0 : goal.returns-then-front_of-eq0
returns-then-front_of-eq0 c = λ o objects points own.
    let zero = c.if-front_of-eq0.true in
    let exact = c.front_of.ensures.exact in
    (λ t. untold objects c.args.drops.now (relocation_at c.args.number o c.args.relocation.now) (omega (arith, zero, exact)), λ w. refl)

pub returns-then-has : goal.returns-then-has
returns-then-has c = λ o objects points own.
    (λ t. out_of objects c.args.drops.now (relocation_at c.args.number o c.args.relocation.now) (sym c.has.ensures ∙ c.if-has.true), λ w. refl)

pub returns : goal.returns
returns c = λ o objects points own.
    let some = c.if-front_of-eq0.false in
    let exact = c.front_of.ensures.exact in
    let r = relocation_at c.args.number o c.args.relocation.now in
    whole_by objects c.args.drops.now o r own c.is_broken.result (omega (arith, some, exact)) (sym c.has.ensures ∙ c.if-has.false)
    (c.is_broken.ensures r (symbols o.bytes) refl refl points.same points.short)
