-- The walk from header to header: where it has come to, a header is due.
use Rattle.std.proofs.Common.{◌≡◌, ◌∙◌, ℕ, suc, ◌+◌, ◌-◌, ◌<◌, ◌≤◌, Bool, true, cond, List, [], ◌∷◌, length, refl, ap, subst, sym, arith}
use Rattle.std.specs.Prelude.{Contains, nat_lt}
use Rattle.std.proofs.lemmas.Bool.{lt-ltb}
use Rattle.elf_model.specs.Inputs.ArchiveFile.{header_offsets, header_offsets_from, is_readable, next_header}
use Rattle.elf_model.proofs.Listed.{Contains-here, Contains-there}

-- the offsets from a header on
offsets_by : (n : ℕ) (bytes : List ℕ) (at : ℕ) (inside readable : Bool) → nat_lt at (length bytes) ≡ inside → is_readable bytes at ≡ readable
    → header_offsets_from (suc n) bytes at ≡ cond inside (at ∷ cond readable (header_offsets_from n bytes (next_header bytes at)) []) []
offsets_by n bytes at inside readable e f =
    (λ i. cond (e i) (at ∷ cond (f i) (header_offsets_from n bytes (next_header bytes at)) []) [])

begins : (n m : ℕ) (bytes : List ℕ) (at : ℕ) (readable : Bool) → n ≡ suc m → at < length bytes → is_readable bytes at ≡ readable
    → header_offsets_from n bytes at ≡ at ∷ cond readable (header_offsets_from m bytes (next_header bytes at)) []
begins n m bytes at readable e inside is =
    ap (λ (k : ℕ). header_offsets_from k bytes at) e ∙ offsets_by m bytes at true readable (lt-ltb at (length bytes) inside) is

-- the headers from an offset on are some of the file's
pub record IsDue (bytes : List ℕ) (at : ℕ) : Type 0 where
  pub n : ℕ
  pub enough : length bytes ≤ at + n
  pub among : (x : ℕ) → Contains (header_offsets_from n bytes at) x → Contains (header_offsets bytes) x

pub first_due : (bytes : List ℕ) → IsDue bytes 8
first_due bytes = record { n = length bytes; enough = omega arith; among = λ x c. c }

pub next_due : (bytes : List ℕ) (at next : ℕ) → IsDue bytes at → at < length bytes → is_readable bytes at ≡ true → next ≡ next_header bytes at
    → at + 60 ≤ next → IsDue bytes next
next_due bytes at next due inside readable is further =
    let enough = due.enough in
    let m = due.n - 1 in
    let less : due.n ≡ suc m = omega (arith, enough, inside) in
    let all : header_offsets_from due.n bytes at ≡ at ∷ header_offsets_from m bytes next =
    begins due.n m bytes at true less inside readable ∙ ap (λ (k : ℕ). at ∷ header_offsets_from m bytes k) (sym is)
    in
    record {
      n = m;
      enough = omega (arith, enough, less, further);
      among = λ x c. due.among x (subst (λ (xs : List ℕ). Contains xs x) (sym all) (Contains-there at (header_offsets_from m bytes next) x c));
    }

pub here : (bytes : List ℕ) (at : ℕ) → IsDue bytes at → at < length bytes → Contains (header_offsets bytes) at
here bytes at due inside =
    let enough = due.enough in
    let m = due.n - 1 in
    let less : due.n ≡ suc m = omega (arith, enough, inside) in
    let all = begins due.n m bytes at (is_readable bytes at) less inside refl in
    due.among at (subst (λ (xs : List ℕ). Contains xs at) (sym all) (Contains-here _ at))
