-- The drop lines ascend by their numbers of object and section.
use Rattle.std.proofs.Common.{◌≡◌, inl, inr, ℕ, ◌+◌, ◌≤◌, true, false, cond, List, [], ◌∷◌, refl, sym, arith}
use Rattle.std.specs.Prelude.{All, AllPairs}
use Rattle.std.proofs.lemmas.List.Elements.{All-append, All-cons, All-nil, All-weaker}
use Rattle.std.proofs.lemmas.List.Kept.{AllPairs-cons}
use Rattle.elf_model.specs.Link.Loading.{LoadedObject}
use Rattle.elf_model.specs.Image.MapText.{Ascends, DropBefore}
use Rattle.elf_model.specs.Inputs.ObjectFile.{sections}
use Rattle.elf_model.specs.Image.RightLink.{drop_rows, drops_from, is_dropped_line}
use Rattle.elf_model.specs.declared.link_map.DropLine.{DropLine}
use Rattle.elf_model.specs.declared.records.SectionHeader.{SectionHeader}
use Rattle.elf_model.proofs.Pairs.{AllPairs-append, AllPairs-nil}

-- a line of object k, of a section from number i on
abbrev IsFrom : ℕ → ℕ → DropLine → Type 0
IsFrom k i d = (d.object ≡ k) × (i ≤ d.section)

abbrev line : ℕ → ℕ → DropLine
line k i = record { object = k; section = i }

drops_from-numbers : (k : ℕ) (o : LoadedObject) (i : ℕ) (hs : List SectionHeader) → All (IsFrom k i) (drops_from k o i hs)
drops_from-numbers k o i [] = All-nil (IsFrom k i)
drops_from-numbers k o i (h ∷ hs) =
    let rest : List DropLine = drops_from k o (i + 1) hs in
    let behind : All (IsFrom k i) rest =
    All-weaker (IsFrom k (i + 1)) (IsFrom k i) (λ d n. (n.0, omega (arith, n))) rest (drops_from-numbers k o (i + 1) hs) in
    elim (is_dropped_line o i h) as (λ b. All (IsFrom k i) (cond b (line k i ∷ rest) rest)) [
      | true ↦ All-cons (IsFrom k i) (line k i) rest (refl, omega arith) behind
      | false ↦ behind
    ]

drops_from-ascend : (k : ℕ) (o : LoadedObject) (i : ℕ) (hs : List SectionHeader) → AllPairs DropBefore (drops_from k o i hs)
drops_from-ascend k o i [] = AllPairs-nil DropBefore
drops_from-ascend k o i (h ∷ hs) =
    let rest : List DropLine = drops_from k o (i + 1) hs in
    let before : All (DropBefore (line k i)) rest =
    All-weaker (IsFrom k (i + 1)) (DropBefore (line k i)) (λ d n. inr (sym n.0, omega (arith, n))) rest (drops_from-numbers k o (i + 1) hs) in
    let others = drops_from-ascend k o (i + 1) hs in
    elim (is_dropped_line o i h) as (λ b. AllPairs DropBefore (cond b (line k i ∷ rest) rest)) [
      | true ↦ AllPairs-cons DropBefore (line k i) rest before others
      | false ↦ others
    ]

abbrev IsOfObjectFrom : ℕ → DropLine → Type 0
IsOfObjectFrom k d = k ≤ d.object

drop_rows-numbers : (k : ℕ) (os : List LoadedObject) → All (IsOfObjectFrom k) (drop_rows k os)
drop_rows-numbers k [] = All-nil (IsOfObjectFrom k)
drop_rows-numbers k (o ∷ os) =
    let here : List DropLine = drops_from k o 0 (sections o.bytes) in
    let rest : List DropLine = drop_rows (k + 1) os in
    All-append (IsOfObjectFrom k) here rest
    (All-weaker (IsFrom k 0) (IsOfObjectFrom k) (λ d n. omega (arith, n)) here (drops_from-numbers k o 0 (sections o.bytes)))
    (All-weaker (IsOfObjectFrom (k + 1)) (IsOfObjectFrom k) (λ d n. omega (arith, n)) rest (drop_rows-numbers (k + 1) os))

drop_rows-pairs : (k : ℕ) (os : List LoadedObject) → AllPairs DropBefore (drop_rows k os)
drop_rows-pairs k [] = AllPairs-nil DropBefore
drop_rows-pairs k (o ∷ os) =
    let here : List DropLine = drops_from k o 0 (sections o.bytes) in
    let rest : List DropLine = drop_rows (k + 1) os in
    AllPairs-append DropBefore here rest (drops_from-ascend k o 0 (sections o.bytes)) (drop_rows-pairs (k + 1) os)
    (All-weaker (IsFrom k 0) (λ d. All (DropBefore d) rest)
    (λ d n. All-weaker (IsOfObjectFrom (k + 1)) (DropBefore d) (λ e m. inl (omega (arith, n, m))) rest (drop_rows-numbers (k + 1) os))
    here (drops_from-numbers k o 0 (sections o.bytes)))

-- each drop line stands before the next
pub drop_rows-ascend : (k : ℕ) (os : List LoadedObject) → Ascends DropBefore (drop_rows k os)
drop_rows-ascend k os i d within = drop_rows-pairs k os i (i + 1) d (omega arith) within
