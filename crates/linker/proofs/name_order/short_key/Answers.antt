use Rattle.std.proofs.Common.{◌≡◌, ℕ, suc, ◌+◌, ◌*◌, arith, refl, subst}
use Rattle.linker.specs.NameKeys.{key_with}
use Rattle.linker.proofs.NameKeyLaws.{digit_small, key_more, key_small}
use Rattle.linker.proofs.name_order.short_key.Goals as goal

pub loop-i-init : goal.loop-i-init
unfolding key_with
loop-i-init c = refl

pub overflow_mul-key : goal.overflow_mul-key
overflow_mul-key c =
    let is : c.loop-i.key ≡ key_with c.loop-i.i c.args.name.now = c.loop-i.invariant in
    let small = key_small c.loop-i.i c.args.name.now c.loop-i-test.true c.show_bytes.ensures in
    omega (arith, is, small)

pub overflow_add-key : goal.overflow_add-key
overflow_add-key c =
    let is : c.loop-i.key ≡ key_with c.loop-i.i c.args.name.now = c.loop-i.invariant in
    let small = key_small c.loop-i.i c.args.name.now c.loop-i-test.true c.show_bytes.ensures in
    let one = digit_small c.args.name.now c.loop-i.i c.show_bytes.ensures in
    let d = c.digit.ensures in
    omega (arith, is, small, one, d)

pub loop-i-preserved : goal.loop-i-preserved
loop-i-preserved c =
    let is : c.loop-i.key ≡ key_with c.loop-i.i c.args.name.now = c.loop-i.invariant in
    let more = key_more c.loop-i.i c.args.name.now in
    let d = c.digit.ensures in
    let next : suc c.loop-i.i ≡ c.loop-i.i + 1 = omega arith in
    subst (λ (j : ℕ). c.loop-i.key * 257 + c.digit.result ≡ key_with j c.args.name.now) next (omega (arith, is, more, d))
