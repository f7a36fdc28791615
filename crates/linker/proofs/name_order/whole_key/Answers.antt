use Rattle.std.proofs.Common.{◌≡◌, ◌<◌, ℕ, suc, ◌+◌, ◌*◌, arith, get_or, length, refl, subst, sym}
use Rattle.linker.specs.NameKeys.{key_with}
use Rattle.linker.proofs.NameKeyLaws.{digit_at, key_more, key_small}
use Rattle.linker.proofs.name_order.whole_key.Goals as goal

pub loop-byte-init : goal.loop-byte-init
unfolding key_with
loop-byte-init c = refl

pub overflow_mul-key : goal.overflow_mul-key
overflow_mul-key c =
    let is : c.loop-byte.key ≡ key_with c.loop-byte.byte-index c.args.bytes.now = c.loop-byte.invariant in
    let small = key_small c.loop-byte.byte-index c.args.bytes.now c.loop-byte-test.true c.show_bytes.ensures in
    omega (arith, is, small)

pub overflow_add-key-in-loop-byte : goal.overflow_add-key-in-loop-byte
overflow_add-key-in-loop-byte c =
    let is : c.loop-byte.key ≡ key_with c.loop-byte.byte-index c.args.bytes.now = c.loop-byte.invariant in
    let small = key_small c.loop-byte.byte-index c.args.bytes.now c.loop-byte-test.true c.show_bytes.ensures in
    let byte : get_or c.args.bytes.now c.loop-byte.byte-index 0 < 256 = c.fits-bytes c.loop-byte.byte-index in
    omega (arith, is, small, byte)

pub loop-byte-preserved : goal.loop-byte-preserved
loop-byte-preserved c =
    let is : c.loop-byte.key ≡ key_with c.loop-byte.byte-index c.args.bytes.now = c.loop-byte.invariant in
    let more = key_more c.loop-byte.byte-index c.args.bytes.now in
    let within : c.loop-byte.byte-index < length c.args.bytes.now = subst (λ (n : ℕ). c.loop-byte.byte-index < n) (sym c.told-bytes) c.loop-byte-test.true in
    let d = digit_at c.args.bytes.now c.loop-byte.byte-index 0 within in
    let next : suc c.loop-byte.byte-index ≡ c.loop-byte.byte-index + 1 = omega arith in
    subst (λ (j : ℕ). c.loop-byte.key * 257 + (c.from.result + 1) ≡ key_with j c.args.bytes.now) next (omega (arith, is, more, d))
