-- How far a segment's pieces reach, and how far the file reaches.
use Rattle.std.proofs.Common.{◌≡◌, ℕ, ◌+◌, ◌<◌, ◌≤◌, ◌&&◌, ◌⊎◌, inl, inr, Bool, true, false, cond, List, [], ◌∷◌, refl, sym, ◌∙◌, subst, arith}
use Rattle.std.specs.Prelude.{All, Any, max, nat_lt}
use Rattle.std.proofs.lemmas.Bool.{and_parts, cases_lt, cond_both, lt-ltb, ltb-true, ltb-false}
use Rattle.std.proofs.lemmas.List.Elements.{All-cons, All-nil, All-head, All-tail}
use Rattle.elf_model.specs.Image.MemoryImage.{file_end}
use Rattle.elf_model.specs.Own.OwnLayout.{any_placed, greatest_end, is_nonempty, placed_end}
use Rattle.elf_model.specs.Link.Placement.{Placed}
use Rattle.elf_model.specs.declared.records.ProgramHeader.{ProgramHeader}
use Rattle.elf_model.proofs.Finding.{Any-here, Any-there}

-- the greatest end is at or above where it begins
pub greatest_end-from : (test : Placed → Bool) (x : ℕ) (qs : List Placed) → x ≤ greatest_end test x qs
greatest_end-from test x [] = omega arith
greatest_end-from test x (q ∷ qs) =
    let rest = greatest_end-from test x qs in
    cond_both (test q && is_nonempty q.piece) (max (placed_end q) (greatest_end test x qs)) (greatest_end test x qs)
    (λ n. x ≤ n) (λ e. omega (arith, rest)) (λ e. rest)

-- a piece that is tested and nonempty ends at or below it
abbrev pub EndsBelow : (Placed → Bool) → ℕ → Placed → Type 0
EndsBelow test n q = test q ≡ true → 0 < q.piece.size → placed_end q ≤ n

first_below :
    (b : Bool) (test : Placed → Bool) (q : Placed) (g n : ℕ) → (test q && is_nonempty q.piece) ≡ b →
    cond b (max (placed_end q) g) g ≤ n → EndsBelow test n q × (g ≤ n)
first_below true test q g n is below = (λ e some. omega (arith, below), omega (arith, below))
first_below false test q g n is below =
    (λ e some. absurd (let s = lt-ltb 0 q.piece.size some in let t : (test q && is_nonempty q.piece) ≡ true = rw (e, s) refl in let f : false ≡ true = sym is ∙ t in cc), below)

pub greatest_end-holds :
    (test : Placed → Bool) (x : ℕ) (qs : List Placed) (n : ℕ) → greatest_end test x qs ≤ n → All (EndsBelow test n) qs
greatest_end-holds test x [] n below = All-nil (EndsBelow test n)
greatest_end-holds test x (q ∷ qs) n below =
    let f = first_below (test q && is_nonempty q.piece) test q (greatest_end test x qs) n refl below in
    All-cons (EndsBelow test n) q qs f.0 (greatest_end-holds test x qs n f.1)

-- it is at or below what bounds its beginning and all ends
pub greatest_end-below :
    (test : Placed → Bool) (x : ℕ) (qs : List Placed) (n : ℕ) → x ≤ n → All (λ q. placed_end q ≤ n) qs → greatest_end test x qs ≤ n
greatest_end-below test x [] n low ends = low
greatest_end-below test x (q ∷ qs) n low ends =
    let rest = greatest_end-below test x qs n low (All-tail (λ p. placed_end p ≤ n) q qs ends) in
    let here = All-head (λ p. placed_end p ≤ n) q qs ends in
    cond_both (test q && is_nonempty q.piece) (max (placed_end q) (greatest_end test x qs)) (greatest_end test x qs)
    (λ m. m ≤ n) (λ e. omega (arith, rest, here)) (λ e. rest)

-- it is where it begins, or the end of a piece that is tested and nonempty
pub record Reaches (test : Placed → Bool) (n : ℕ) (q : Placed) : Type 0 where
  pub passes : test q ≡ true
  pub some : 0 < q.piece.size
  pub end : placed_end q ≡ n

reached_further :
    (test : Placed → Bool) (q : Placed) (qs : List Placed) (x g : ℕ) → (test q && is_nonempty q.piece) ≡ true →
    ((g ≡ x) ⊎ Any (Reaches test g) qs) → (placed_end q < g) ⊎ (g ≤ placed_end q) →
    (max (placed_end q) g ≡ x) ⊎ Any (Reaches test (max (placed_end q) g)) (q ∷ qs)
reached_further test q qs x g is rest (inr above) =
    let t = and_parts (test q) (is_nonempty q.piece) is in
    inr (Any-here (Reaches test (max (placed_end q) g)) q qs
    (record { passes = t.0; some = ltb-true 0 q.piece.size t.1; end = omega (arith, above) }))
reached_further test q qs x g is (inl start) (inl below) = inl (omega (arith, start, below))
reached_further test q qs x g is (inr found) (inl below) =
    let m : g ≡ max (placed_end q) g = omega (arith, below) in
    inr (Any-there (Reaches test (max (placed_end q) g)) q qs (subst (λ n. Any (Reaches test n) qs) m found))

pub greatest_end-reached :
    (test : Placed → Bool) (x : ℕ) (qs : List Placed) →
    (greatest_end test x qs ≡ x) ⊎ Any (Reaches test (greatest_end test x qs)) qs
greatest_end-reached test x [] = inl refl
greatest_end-reached test x (q ∷ qs) = by (test q && is_nonempty q.piece) refl (greatest_end-reached test x qs)
  where
    by :
        (b : Bool) → (test q && is_nonempty q.piece) ≡ b →
        ((greatest_end test x qs ≡ x) ⊎ Any (Reaches test (greatest_end test x qs)) qs) →
        (cond b (max (placed_end q) (greatest_end test x qs)) (greatest_end test x qs) ≡ x)
        ⊎ Any (Reaches test (cond b (max (placed_end q) (greatest_end test x qs)) (greatest_end test x qs))) (q ∷ qs)
    by true is rest = reached_further test q qs x (greatest_end test x qs) is rest (cases_lt (placed_end q) (greatest_end test x qs))
    by false is (inl start) = inl start
    by false is (inr found) = inr (Any-there (Reaches test (greatest_end test x qs)) q qs found)

-- pieces with bytes end no later than all of them
further : (b n : Bool) (e g h : ℕ) → g ≤ h → cond (b && n) (max e g) g ≤ cond (true && n) (max e h) h
further true true e g h low = omega (arith, low)
further true false e g h low = low
further false true e g h low = omega (arith, low)
further false false e g h low = low

pub greatest_end-less : (test : Placed → Bool) (x : ℕ) (qs : List Placed) → greatest_end test x qs ≤ greatest_end any_placed x qs
greatest_end-less test x [] = omega arith
greatest_end-less test x (q ∷ qs) =
    further (test q) (is_nonempty q.piece) (placed_end q) (greatest_end test x qs) (greatest_end any_placed x qs)
    (greatest_end-less test x qs)

-- where all pass, the ends are those of all pieces
pub greatest_end-same :
    (test : Placed → Bool) (x : ℕ) (qs : List Placed) → All (λ q. test q ≡ true) qs →
    greatest_end test x qs ≡ greatest_end any_placed x qs
greatest_end-same test x [] all = refl
greatest_end-same test x (q ∷ qs) all =
    let here = All-head (λ p. test p ≡ true) q qs all in
    let rest = greatest_end-same test x qs (All-tail (λ p. test p ≡ true) q qs all) in
    rw (here, rest) refl

-- a file part ends at or below the file's end
abbrev pub FileEndsBelow : ℕ → ProgramHeader → Type 0
FileEndsBelow n h = 0 < h.p_filesz → h.p_offset + h.p_filesz ≤ n

first_part :
    (b : Bool) (h : ProgramHeader) (g n : ℕ) → nat_lt 0 h.p_filesz ≡ b →
    cond b (max (h.p_offset + h.p_filesz) g) g ≤ n → FileEndsBelow n h × (g ≤ n)
first_part true h g n is below = (λ some. omega (arith, below), omega (arith, below))
first_part false h g n is below = (λ some. absurd (omega (arith, ltb-false 0 h.p_filesz is, some)), below)

pub file_end-holds : (hs : List ProgramHeader) (n : ℕ) → file_end hs ≤ n → All (FileEndsBelow n) hs
file_end-holds [] n below = All-nil (FileEndsBelow n)
file_end-holds (h ∷ hs) n below =
    let f = first_part (nat_lt 0 h.p_filesz) h (file_end hs) n refl below in
    All-cons (FileEndsBelow n) h hs f.0 (file_end-holds hs n f.1)

-- the file's end is 0 or the end of a file part
abbrev pub EndsFile : ℕ → ProgramHeader → Type 0
EndsFile n h = (0 < h.p_filesz) × (h.p_offset + h.p_filesz ≡ n)

part_further :
    (h : ProgramHeader) (hs : List ProgramHeader) (g : ℕ) → 0 < h.p_filesz →
    ((g ≡ 0) ⊎ Any (EndsFile g) hs) → (h.p_offset + h.p_filesz < g) ⊎ (g ≤ h.p_offset + h.p_filesz) →
    Any (EndsFile (max (h.p_offset + h.p_filesz) g)) (h ∷ hs)
part_further h hs g some rest (inr above) =
    Any-here (EndsFile (max (h.p_offset + h.p_filesz) g)) h hs (some, omega (arith, above))
part_further h hs g some (inl start) (inl below) = absurd (omega (arith, start, below))
part_further h hs g some (inr found) (inl below) =
    let m : g ≡ max (h.p_offset + h.p_filesz) g = omega (arith, below) in
    Any-there (EndsFile (max (h.p_offset + h.p_filesz) g)) h hs (subst (λ n. Any (EndsFile n) hs) m found)

pub file_end-reached : (hs : List ProgramHeader) → (file_end hs ≡ 0) ⊎ Any (EndsFile (file_end hs)) hs
file_end-reached [] = inl refl
file_end-reached (h ∷ hs) = by (nat_lt 0 h.p_filesz) refl (file_end-reached hs)
  where
    by :
        (b : Bool) → nat_lt 0 h.p_filesz ≡ b → ((file_end hs ≡ 0) ⊎ Any (EndsFile (file_end hs)) hs) →
        (cond b (max (h.p_offset + h.p_filesz) (file_end hs)) (file_end hs) ≡ 0)
        ⊎ Any (EndsFile (cond b (max (h.p_offset + h.p_filesz) (file_end hs)) (file_end hs))) (h ∷ hs)
    by true is rest =
        inr (part_further h hs (file_end hs) (ltb-true 0 h.p_filesz is) rest (cases_lt (h.p_offset + h.p_filesz) (file_end hs)))
    by false is (inl start) = inl start
    by false is (inr found) = inr (Any-there (EndsFile (file_end hs)) h hs found)
