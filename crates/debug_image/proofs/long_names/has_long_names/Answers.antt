use Rattle.std.proofs.Common.{◌≡◌, ◌≤◌, ◌+◌, ◌<◌, ◌∙◌, ℕ, List, ap, arith, false, length, nat_lt, true}
use Rattle.std.specs.Prelude.{sum_by}
use Rattle.std.specs.List.{range_with_len}
use Rattle.std.proofs.lemmas.Bool.Decides.{nat_tests}
use Rattle.elf_model.specs.Inputs.ObjectFile.{symbols}
use Rattle.elf_model.specs.declared.records.Symbol.{Symbol}
use Rattle.search.specs.Views.{loaded_view}
use Rattle.debug_image.specs.LongNames.{name_size}
use Rattle.debug_image.proofs.AnySteps.{sum_more, sum_within}
use Rattle.debug_image.proofs.long_names.has_long_names.Goals as goal

is_below : (a b : ℕ) → a < b → true ≡ nat_lt a b
is_below a b low = grind (arith, nat_tests)

is_not_below : (a b : ℕ) → b ≤ a → false ≡ nat_lt a b
is_not_below a b high = grind (arith, nat_tests)

pub returns-then-more-most : goal.returns-then-more-most
returns-then-more-most c =
    let o = loaded_view c.args.loaded.now in
    let f = name_size o in
    let count : c.len-j-end.result ≡ length (symbols o.bytes) = c.len-j-end.ensures ∙ ap (λ (xs : List Symbol). length xs) c.symbols.ensures in
    let low = c.loop-j-test.true in
    let further = sum_within f (c.loop-j.j + 1) (length (symbols o.bytes)) (omega (arith, low, count)) in
    let step = sum_more f c.loop-j.j in
    let so_far = c.loop-j.invariant.exact in
    let more = c.name_size-more.ensures in
    let high = c.if-more-most.true in
    let long : length c.bytes.result.now ≡ length o.bytes = ap (λ (xs : List ℕ). length xs) c.bytes.ensures.exact in
    is_below (length o.bytes) _ (omega (arith, further, step, so_far, more, high, long))

pub loop-j-preserved : goal.loop-j-preserved
loop-j-preserved c =
    let step = sum_more (name_size (loaded_view c.args.loaded.now)) c.loop-j.j in
    let so_far = c.loop-j.invariant.exact in
    let more = c.name_size-more.ensures in
    let short = c.loop-j.invariant.short in
    let low = c.if-more-most.false in
    record { exact = omega (arith, step, so_far, more); short = omega (arith, short, low) }

pub returns : goal.returns
returns c =
    let o = loaded_view c.args.loaded.now in
    let f = name_size o in
    let count : c.len-j-end.result ≡ length (symbols o.bytes) = c.len-j-end.ensures ∙ ap (λ (xs : List Symbol). length xs) c.symbols.ensures in
    let high = c.loop-j-test.false in
    let within = c.loop-j.auto.j-end in
    let all : c.loop-j.j ≡ length (symbols o.bytes) = omega (arith, high, within, count) in
    let exact : c.loop-j.size ≡ sum_by f (range_with_len 0 (length (symbols o.bytes))) =
    c.loop-j.invariant.exact ∙ ap (λ (k : ℕ). sum_by f (range_with_len 0 k)) all in
    let short = c.loop-j.invariant.short in
    let long : length c.bytes.result.now ≡ length o.bytes = ap (λ (xs : List ℕ). length xs) c.bytes.ensures.exact in
    is_not_below (length o.bytes) _ (omega (arith, exact, short, long))
