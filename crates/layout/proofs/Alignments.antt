-- The pieces of objects and the GOT have small alignments, in load order and in own order.
use Rattle.std.proofs.Common.{ℕ, ◌<◌, ◌≤◌, inl, inr, ◌^◌, Bool, true, false, cond, List, [], ◌∷◌, arith}
use Rattle.std.specs.Prelude.{Contains, max}
use Rattle.std.proofs.lemmas.List.Elements.{All-append, All-contains, All-head, All-tail, Contains-append_left}
use Rattle.elf_model.specs.Link.Loading.{AreObjects, LoadedObject}
use Rattle.elf_model.specs.Inputs.ObjectFile.{IsAlignment}
use Rattle.elf_model.specs.Own.OwnLayout.{code_pieces, got_pieces, initial_pieces, laid_out, read_only_pieces, thread_rest_pieces}
use Rattle.elf_model.specs.Link.Commons.{block_pieces, pieces}
use Rattle.elf_model.specs.Link.Pieces.{Piece, is_thread_piece, kept_sections}
use Rattle.elf_model.specs.Link.Resolution.{AreSoundCommons}
use Rattle.elf_model.proofs.Listed.{All-from_contains}
use Rattle.elf_model.proofs.OwnOrder.{from_code, from_initial, from_plain_data, from_read_only, from_thread_rest, is_laid_out}
use Rattle.elf_model.proofs.PieceAlignments.{alignments-each}
use Rattle.elf_model.proofs.PieceNumbers.{got_pieces-each}
use Rattle.elf_model.proofs.Places.{some_alignment}
use Rattle.elf_model.specs.Link.ThreadStorage.{alignment_of}
use Rattle.placing.specs.Limits.{AreAligned, HasSmallAlignment}
use Rattle.layout.specs.Orders.{plain_pieces}

abbrev IsSmall : ℕ → Type 0
IsSmall a = (0 < a) × (a ≤ 2 ^ 21)

small : (a : ℕ) → IsAlignment a → IsSmall (max 1 a)
small a (inl none) = (omega arith, omega (arith, none))
small a (inr some) = let low = some.1 in (omega arith, omega (arith, low))

all_aligned : (objects : List LoadedObject) → AreObjects objects → AreSoundCommons objects → AreAligned (laid_out objects)
all_aligned objects all sound =
    All-append HasSmallAlignment (pieces objects) (got_pieces objects) (alignments-each IsSmall small objects all sound)
    (got_pieces-each objects HasSmallAlignment (omega arith, omega arith))

chosen_aligned : (objects : List LoadedObject) → AreObjects objects → AreSoundCommons objects → (ps : List Piece) → ((p : Piece) → Contains ps p → Contains (laid_out objects) p) → AreAligned ps
chosen_aligned objects all sound ps from =
    All-from_contains HasSmallAlignment ps (λ p c. All-contains HasSmallAlignment (laid_out objects) p (all_aligned objects all sound) (from p c))

pub kept_aligned : (objects : List LoadedObject) → AreObjects objects → AreSoundCommons objects → AreAligned (kept_sections objects)
kept_aligned objects all sound =
    chosen_aligned objects all sound (kept_sections objects) (λ p c. is_laid_out objects p (Contains-append_left (kept_sections objects) (block_pieces objects) p c))

-- so their greatest alignment is small
greatest_small : (test : Piece → Bool) (ps : List Piece) → AreAligned ps → alignment_of test ps ≤ 2 ^ 21
greatest_small test [] all = omega arith
greatest_small test (p ∷ ps) all =
    by (test p) (All-head HasSmallAlignment p ps all) (greatest_small test ps (All-tail HasSmallAlignment p ps all))
  where
    by : (b : Bool) → HasSmallAlignment p → alignment_of test ps ≤ 2 ^ 21 → cond b (max p.align (alignment_of test ps)) (alignment_of test ps) ≤ 2 ^ 21
    by true here rest = let low = here.1 in omega (arith, low, rest)
    by false here rest = rest

pub thread_alignment : (objects : List LoadedObject) → AreObjects objects → AreSoundCommons objects →
    (0 < alignment_of is_thread_piece (kept_sections objects)) × (alignment_of is_thread_piece (kept_sections objects) ≤ 2 ^ 21)
thread_alignment objects all sound =
    (some_alignment is_thread_piece (kept_sections objects), greatest_small is_thread_piece (kept_sections objects) (kept_aligned objects all sound))

pub read_only_aligned : (objects : List LoadedObject) → AreObjects objects → AreSoundCommons objects → AreAligned (read_only_pieces objects)
read_only_aligned objects all sound = chosen_aligned objects all sound (read_only_pieces objects) (λ p c. (from_read_only objects p c).0)

pub code_aligned : (objects : List LoadedObject) → AreObjects objects → AreSoundCommons objects → AreAligned (code_pieces objects)
code_aligned objects all sound = chosen_aligned objects all sound (code_pieces objects) (λ p c. (from_code objects p c).0)

pub initial_aligned : (objects : List LoadedObject) → AreObjects objects → AreSoundCommons objects → AreAligned (initial_pieces objects)
initial_aligned objects all sound = chosen_aligned objects all sound (initial_pieces objects) (λ p c. (from_initial objects p c).0)

pub plain_aligned : (objects : List LoadedObject) → AreObjects objects → AreSoundCommons objects → AreAligned (plain_pieces objects)
plain_aligned objects all sound = chosen_aligned objects all sound (plain_pieces objects) (λ p c. (from_plain_data objects p c).0)

pub thread_rest_aligned : (objects : List LoadedObject) → AreObjects objects → AreSoundCommons objects → AreAligned (thread_rest_pieces objects)
thread_rest_aligned objects all sound = chosen_aligned objects all sound (thread_rest_pieces objects) (λ p c. (from_thread_rest objects p c).0)
