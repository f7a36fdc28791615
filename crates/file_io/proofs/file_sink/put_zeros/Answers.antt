use Rattle.std.proofs.Common.{◌≡◌, ◌∙◌, ◌+◌, ◌-◌, ◌≤◌, ◌++◌, ℕ, List, ap, arith, length, refl, replicate, subst, sym, take}
use Rattle.std.specs.Prelude.{Option}
use Rattle.std.proofs.lemmas.List.{replicate-append-replicate, take-replicate}
use Rattle.image_write.specs.Streams.{Took, TookPart}
use Rattle.image_write.proofs.StreamLaws.{took_more, whatever}
use Rattle.file_io.proofs.file_sink.put_zeros.Goals as goal

-- zeros are taken after others
zeros_more :
    (first then last : Option (List ℕ)) (count left n : ℕ) (run : List ℕ) → Took first (replicate (count - left) 0) then →
    Took then (take n run) last → run ≡ replicate (length run) 0 → n ≤ length run → length run ≤ left → left ≤ count →
    Took first (replicate (count - (left - n)) 0) last
zeros_more first then last count left n run before here zeros within most some =
    let taken : take n run ≡ replicate n 0 = ap (take n) zeros ∙ take-replicate n (length run) 0 within in
    let total : (count - left) + n ≡ count - (left - n) = omega arith in
    let all : replicate (count - left) 0 ++ take n run ≡ replicate (count - (left - n)) 0 =
    ap (λ (xs : List ℕ). replicate (count - left) 0 ++ xs) taken
    ∙ (replicate-append-replicate (count - left) n 0 ∙ ap (λ (k : ℕ). replicate k 0) total) in
    subst (λ (xs : List ℕ). Took first xs last) all (took_more first then last (replicate (count - left) 0) (take n run) before here)

-- the first of the zeros are taken, and no more
zeros_part :
    (first then last : Option (List ℕ)) (count left : ℕ) → Took first (replicate (count - left) 0) then → last ≡ then → left ≤ count →
    TookPart first (replicate count 0) last
zeros_part first then last count left before same some = record {
  front = replicate (count - left) 0;
  rest = replicate left 0;
  parts =
      let total : count ≡ (count - left) + left = omega arith in
      ap (λ (k : ℕ). replicate k 0) total ∙ sym (replicate-append-replicate (count - left) left 0);
  took = same ∙ before;
}

pub returns-in_err-left-clause-refused : goal.returns-in_err-left-clause-refused
returns-in_err-left-clause-refused g c =
    whatever _ _ (zeros_part _ _ _ c.args.count c.loop-left.left c.loop-left.invariant.took c.in_err-left.ensures.refused c.loop-left.invariant.within)

pub loop-left-preserved : goal.loop-left-preserved
loop-left-preserved g c =
    let h = c.loop-left.invariant in
    let run = c.zeros.ensures in
    let put = c.in_ok-left.ensures in
    record {
      within = omega (arith, h.within);
      took = zeros_more _ _ _ c.args.count c.loop-left.left c.in_ok-left.field-0 _ h.took put.took run.zeros put.count.1 run.within h.within;
      whole = put.kept;
    }
