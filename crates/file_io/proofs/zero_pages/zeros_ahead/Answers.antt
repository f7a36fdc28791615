use Rattle.std.proofs.Common.{◌≡◌, ◌+◌, ◌≤◌, ◌∙◌, ◌++◌, List, ℕ, ap, arith, drop, length, length-drop, refl, replicate, sym, take}
use Rattle.std.proofs.Math.Seq.{take-add}
use Rattle.std.proofs.lemmas.List.{drop-drop, replicate-append-replicate}
use Rattle.file_io.proofs.zero_pages.zeros_ahead.Goals as goal

-- p bytes more are inside
more_within :
    (n p : ℕ) (bytes rest : List ℕ) → rest ≡ drop n bytes → n ≤ length bytes →
    p ≤ length rest → n + p ≤ length bytes
more_within n p bytes rest are within here =
    let e : length rest ≡ length (drop n bytes) = ap length are in
    let l = length-drop n bytes in
    omega (arith, e, l, within, here)

-- the first n bytes and the p behind them are zeros
more_zeros :
    (n p : ℕ) (bytes rest : List ℕ) → rest ≡ drop n bytes → take n bytes ≡ replicate n 0 →
    take p rest ≡ replicate p 0 → take (n + p) bytes ≡ replicate (n + p) 0
more_zeros n p bytes rest are front here =
    take-add n p bytes
    ∙ (ap (λ (xs : List ℕ). xs ++ take p (drop n bytes)) front
    ∙ (ap (λ (xs : List ℕ). replicate n 0 ++ take p xs) (sym are)
    ∙ (ap (λ (xs : List ℕ). replicate n 0 ++ xs) here ∙ replicate-append-replicate n p 0)))

pub loop-rest-preserved : goal.loop-rest-preserved
loop-rest-preserved c =
    let n = c.loop-rest.count in
    let bytes = c.args.bytes.now in
    let kept = c.loop-rest.invariant in
    let here = c.loop-rest-test.ensures in
    record {
      within = more_within n 4096 bytes c.loop-rest.rest.now kept.rest kept.within (here.within refl);
      rest = c.split_at.ensures.back ∙ (ap (λ (xs : List ℕ). drop 4096 xs) kept.rest ∙ drop-drop 4096 n bytes);
      zeros = more_zeros n 4096 bytes c.loop-rest.rest.now kept.rest kept.zeros (here.zeros refl);
    }
