-- The pieces ascend by their numbers of object and section, which tell each from every other; and what every piece has.
use Rattle.std.proofs.Common.{◌≡◌, ◌⊎◌, inl, inr, ℕ, ◌+◌, ◌<◌, ◌≤◌, Bool, true, false, cond, List, [], ◌∷◌, length, length-take, drop, refl, sym, subst, arith}
use Rattle.std.specs.Prelude.{All, AllPairs, Option, Some, None, unwrap_or, if◌then◌else◌}
use Rattle.std.specs.List.{slice_get}
use Rattle.std.specs.Option.{option_and_then}
use Rattle.std.proofs.lemmas.List.Elements.{All-append, All-cons, All-nil, All-weaker}
use Rattle.std.proofs.lemmas.List.Kept.{AllPairs-cons}
use Rattle.byteview.specs.Numbers.{part}
use Rattle.elf_model.specs.Link.Commons.{block_pieces, pieces}
use Rattle.elf_model.specs.Link.Loading.{LoadedObject}
use Rattle.elf_model.specs.Own.OwnLayout.{got_piece, got_pieces, laid_out}
use Rattle.elf_model.specs.Link.Slots.{has_got}
use Rattle.elf_model.specs.Inputs.ObjectFile.{bytes_in_file, contents, has_no_bytes, section_bytes, sections}
use Rattle.elf_model.specs.Link.Pieces.{Piece, is_kept, kept_sections, piece_of, pieces_from, pieces_of}
use Rattle.elf_model.specs.declared.records.SectionHeader.{SectionHeader}
use Rattle.elf_model.proofs.Blocks.{block_pieces-ascend, block_pieces-each, block_pieces-object}
use Rattle.elf_model.proofs.Pairs.{AllPairs-append, AllPairs-nil, AllPairs-weaker}
use Rattle.elf_model.proofs.Sectioned.{kept-each}

-- a piece's object, or else its section, has the lower number
abbrev pub ComesBefore : Piece → Piece → Type 0
ComesBefore p q = (p.object < q.object) ⊎ ((p.object ≡ q.object) × (p.section < q.section))

-- two pieces are of different sections
abbrev pub AreOtherSections : Piece → Piece → Type 0
AreOtherSections p q = p.object ≡ q.object → p.section ≡ q.section → ⊥

pub other_sections-sym : (p q : Piece) → AreOtherSections p q → AreOtherSections q p
other_sections-sym p q other e f = other (sym e) (sym f)

before-other : (p q : Piece) → ComesBefore p q → AreOtherSections p q
before-other p q (inl object) e f = omega (arith, object, e)
before-other p q (inr section) e f = omega (arith, section, f)

-- a piece of object k, of a section from number i on
abbrev IsFrom : ℕ → ℕ → Piece → Type 0
IsFrom k i p = (p.object ≡ k) × (i ≤ p.section)

pieces_from-numbers : (k : ℕ) (o : LoadedObject) (i : ℕ) (hs : List SectionHeader) → All (IsFrom k i) (pieces_from k o i hs)
pieces_from-numbers k o i [] = All-nil (IsFrom k i)
pieces_from-numbers k o i (h ∷ hs) =
    let rest : List Piece = pieces_from k o (i + 1) hs in
    let behind : All (IsFrom k i) rest =
    All-weaker (IsFrom k (i + 1)) (IsFrom k i) (λ p n. (n.0, omega (arith, n))) rest (pieces_from-numbers k o (i + 1) hs) in
    elim (is_kept o i h) as (λ b. All (IsFrom k i) (cond b (piece_of k o.bytes i h ∷ rest) rest)) [
      | true ↦ All-cons (IsFrom k i) (piece_of k o.bytes i h) rest (refl, omega arith) behind
      | false ↦ behind
    ]

pieces_from-ascend : (k : ℕ) (o : LoadedObject) (i : ℕ) (hs : List SectionHeader) → AllPairs ComesBefore (pieces_from k o i hs)
pieces_from-ascend k o i [] = AllPairs-nil ComesBefore
pieces_from-ascend k o i (h ∷ hs) =
    let rest : List Piece = pieces_from k o (i + 1) hs in
    let p : Piece = piece_of k o.bytes i h in
    let before : All (ComesBefore p) rest =
    All-weaker (IsFrom k (i + 1)) (ComesBefore p) (λ q n. inr (sym n.0, omega (arith, n))) rest (pieces_from-numbers k o (i + 1) hs) in
    let others = pieces_from-ascend k o (i + 1) hs in
    elim (is_kept o i h) as (λ b. AllPairs ComesBefore (cond b (p ∷ rest) rest)) [
      | true ↦ AllPairs-cons ComesBefore p rest before others
      | false ↦ others
    ]

abbrev IsOfObjectFrom : ℕ → Piece → Type 0
IsOfObjectFrom k p = k ≤ p.object

pieces_of-numbers : (k : ℕ) (objects : List LoadedObject) → All (IsOfObjectFrom k) (pieces_of k objects)
pieces_of-numbers k [] = All-nil (IsOfObjectFrom k)
pieces_of-numbers k (o ∷ objects) =
    let here : List Piece = pieces_from k o 0 (sections o.bytes) in
    let rest : List Piece = pieces_of (k + 1) objects in
    All-append (IsOfObjectFrom k) here rest
    (All-weaker (IsFrom k 0) (IsOfObjectFrom k) (λ p n. omega (arith, n)) here (pieces_from-numbers k o 0 (sections o.bytes)))
    (All-weaker (IsOfObjectFrom (k + 1)) (IsOfObjectFrom k) (λ p n. omega (arith, n)) rest (pieces_of-numbers (k + 1) objects))

pieces_of-ascend : (k : ℕ) (objects : List LoadedObject) → AllPairs ComesBefore (pieces_of k objects)
pieces_of-ascend k [] = AllPairs-nil ComesBefore
pieces_of-ascend k (o ∷ objects) =
    let here : List Piece = pieces_from k o 0 (sections o.bytes) in
    let rest : List Piece = pieces_of (k + 1) objects in
    AllPairs-append ComesBefore here rest (pieces_from-ascend k o 0 (sections o.bytes)) (pieces_of-ascend (k + 1) objects)
    (All-weaker (IsFrom k 0) (λ p. All (ComesBefore p) rest)
    (λ p n. All-weaker (IsOfObjectFrom (k + 1)) (ComesBefore p) (λ q m. inl (omega (arith, n, m))) rest (pieces_of-numbers (k + 1) objects))
    here (pieces_from-numbers k o 0 (sections o.bytes)))

-- the kept sections are in the order of their objects' and their own numbers
pub kept_ascend : (objects : List LoadedObject) → AllPairs ComesBefore (kept_sections objects)
kept_ascend objects = pieces_of-ascend 0 objects

-- each is of an object that is loaded
pieces_of-below : (k : ℕ) (objects : List LoadedObject) → All (λ p. p.object < k + length objects) (pieces_of k objects)
pieces_of-below k [] = All-nil (λ p. p.object < k + 0)
pieces_of-below k (o ∷ objects) =
    let here : List Piece = pieces_from k o 0 (sections o.bytes) in
    let rest : List Piece = pieces_of (k + 1) objects in
    All-append (λ p. p.object < k + length (o ∷ objects)) here rest
    (All-weaker (IsFrom k 0) (λ p. p.object < k + length (o ∷ objects)) (λ p n. omega (arith, n)) here (pieces_from-numbers k o 0 (sections o.bytes)))
    (All-weaker (λ p. p.object < (k + 1) + length objects) (λ p. p.object < k + length (o ∷ objects)) (λ p n. omega (arith, n)) rest
    (pieces_of-below (k + 1) objects))

pub kept_below : (objects : List LoadedObject) → All (λ p. p.object < length objects) (kept_sections objects)
kept_below objects =
    All-weaker (λ p. p.object < 0 + length objects) (λ p. p.object < length objects) (λ p n. omega (arith, n)) (kept_sections objects)
    (pieces_of-below 0 objects)

-- the pieces are in the order of their objects' and sections' numbers
pub pieces_ascend : (objects : List LoadedObject) → AllPairs ComesBefore (pieces objects)
pieces_ascend objects =
    AllPairs-append ComesBefore (kept_sections objects) (block_pieces objects) (kept_ascend objects)
    (AllPairs-weaker (λ p q. (p.object ≡ q.object) × (p.section < q.section)) ComesBefore (λ p q n. inr n) (block_pieces objects)
    (block_pieces-ascend objects))
    (All-weaker (λ p. p.object < length objects) (λ p. All (ComesBefore p) (block_pieces objects))
    (λ p n. All-weaker (λ q. q.object ≡ length objects) (ComesBefore p) (λ q m. inl (omega (arith, n, m))) (block_pieces objects) (block_pieces-object objects))
    (kept_sections objects) (kept_below objects))

-- no two kept sections, and no two pieces, are of one section
pub kept_other : (objects : List LoadedObject) → AllPairs AreOtherSections (kept_sections objects)
kept_other objects = AllPairs-weaker ComesBefore AreOtherSections before-other (kept_sections objects) (kept_ascend objects)

pub pieces_other : (objects : List LoadedObject) → AllPairs AreOtherSections (pieces objects)
pieces_other objects = AllPairs-weaker ComesBefore AreOtherSections before-other (pieces objects) (pieces_ascend objects)

-- none is of an object behind the one that the blocks make
pub pieces_low : (objects : List LoadedObject) → All (λ p. p.object ≤ length objects) (pieces objects)
pieces_low objects =
    All-append (λ p. p.object ≤ length objects) (kept_sections objects) (block_pieces objects)
    (All-weaker (λ p. p.object < length objects) (λ p. p.object ≤ length objects) (λ p n. omega (arith, n)) (kept_sections objects) (kept_below objects))
    (All-weaker (λ p. p.object ≡ length objects) (λ p. p.object ≤ length objects) (λ p n. omega (arith, n)) (block_pieces objects) (block_pieces-object objects))

-- what holds of the GOT as a piece holds of each, where there is one
pub got_pieces-each : (objects : List LoadedObject) (P : Piece → Type 0) → P (got_piece objects) → All P (got_pieces objects)
got_pieces-each objects P holds =
    elim (has_got objects) as (λ b. All P (cond b (got_piece objects ∷ []) [])) [
      | true ↦ All-cons P (got_piece objects) [] holds (All-nil P)
      | false ↦ All-nil P
    ]

pub got_pieces-pairs : (objects : List LoadedObject) (R : Piece → Piece → Type 0) → AllPairs R (got_pieces objects)
got_pieces-pairs objects R =
    elim (has_got objects) as (λ b. AllPairs R (cond b (got_piece objects ∷ []) [])) [
      | true ↦ AllPairs-cons R (got_piece objects) [] (All-nil (R (got_piece objects))) (AllPairs-nil R)
      | false ↦ AllPairs-nil R
    ]

pub laid_out_other : (objects : List LoadedObject) → AllPairs AreOtherSections (laid_out objects)
laid_out_other objects =
    AllPairs-append AreOtherSections (pieces objects) (got_pieces objects) (pieces_other objects) (got_pieces-pairs objects AreOtherSections)
    (All-weaker (λ p. p.object ≤ length objects) (λ p. All (AreOtherSections p) (got_pieces objects))
    (λ p n. got_pieces-each objects (AreOtherSections p) (λ e f. omega (arith, n, e))) (pieces objects) (pieces_low objects))

-- each piece has an alignment, and no more bytes than its size
abbrev pub IsKept : Piece → Type 0
IsKept p = (0 < p.align) × (length p.bytes ≤ p.size)

part_short : (bytes : List ℕ) (at n : ℕ) → length (part bytes at n) ≤ n
part_short bytes at n = let l = length-take n (drop at bytes) in omega (arith, l)

bytes_short : (bytes : List ℕ) (h : SectionHeader) → length (unwrap_or (bytes_in_file bytes h) []) ≤ h.sh_size
bytes_short bytes h = by (has_no_bytes h)
  where
    by : (b : Bool) → length (unwrap_or (if b then None else Some (contents bytes h)) []) ≤ h.sh_size
    by true = omega arith
    by false = part_short bytes h.sh_offset h.sh_size

-- the bytes of section number i
section_short : (bytes : List ℕ) (i : ℕ) (h : SectionHeader) → slice_get (sections bytes) i ≡ Some h → length (unwrap_or (section_bytes bytes i) []) ≤ h.sh_size
section_short bytes i h there =
    subst (λ (o : Option SectionHeader). length (unwrap_or (option_and_then (bytes_in_file bytes) o) []) ≤ h.sh_size) (sym there) (bytes_short bytes h)

pub kept_whole : (objects : List LoadedObject) → All IsKept (kept_sections objects)
kept_whole objects = kept-each IsKept objects (λ k o there i h within. (omega arith, section_short o.bytes i h within))

pub pieces_kept : (objects : List LoadedObject) → All IsKept (pieces objects)
pieces_kept objects =
    All-append IsKept (kept_sections objects) (block_pieces objects) (kept_whole objects)
    (block_pieces-each objects IsKept (λ k s c. (omega arith, omega arith)))

pub laid_out_kept : (objects : List LoadedObject) → All IsKept (laid_out objects)
laid_out_kept objects =
    All-append IsKept (pieces objects) (got_pieces objects) (pieces_kept objects) (got_pieces-each objects IsKept (omega arith, omega arith))
