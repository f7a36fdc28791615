-- A run of records of a size, where they are in the file: how many there are, and which each is.
use Rattle.std.proofs.Common.{◌≡◌, ℕ, suc, ◌+◌, ◌*◌, ◌<◌, ◌≤◌, List, get_or, length, ap, sym, ◌∙◌, arith, le_of_eq, le_trans, mul-le-mul_left, mul-suc}
use Rattle.std.proofs.lemmas.List.FromFn.{get_or-map-range_with_len, length-map-range_with_len}
use Rattle.byteview.specs.Numbers.{part}
use Rattle.elf_model.specs.Inputs.ObjectFile.{entries}

pub run_count : {X : Type 0} (read : List ℕ → X) (size : ℕ) (bytes : List ℕ) (start n : ℕ) (run : List X)
    → entries read size bytes start n ≡ run → n ≡ length run
run_count read size bytes start n run is =
    sym (length-map-range_with_len (λ i. read (part bytes (start + size * i) size)) 0 n) ∙ ap (λ xs. length xs) is

pub run_entry : {X : Type 0} (read : List ℕ → X) (size : ℕ) (bytes : List ℕ) (start n : ℕ) (run : List X) (i : ℕ) (d : X)
    → entries read size bytes start n ≡ run → i < length run → read (part bytes (start + size * i) size) ≡ get_or run i d
run_entry read size bytes start n run i d is within =
    let count = run_count read size bytes start n run is in
    sym (get_or-map-range_with_len (λ k. read (part bytes (start + size * k) size)) 0 n i i d (omega (arith, count, within)) (omega arith))
    ∙ ap (λ xs. get_or xs i d) is

-- the record of a number lies before the end of a run
pub record_within : {X : Type 0} (size n : ℕ) (run : List X) (i : ℕ) → n ≡ length run → i < length run → size * i + size ≤ size * n
record_within size n run i count within =
    let more : suc i ≤ n = omega (arith, count, within) in
    le_trans (le_of_eq (sym (mul-suc size i))) (mul-le-mul_left size more)
