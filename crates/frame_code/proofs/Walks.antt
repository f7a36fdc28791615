-- One step of a walk: over the letters of an augmentation, and over instructions.
use Rattle.std.proofs.Common.{◌≡◌, ◌∙◌, ℕ, suc, ◌+◌, ◌<◌, ◌≤◌, true, false, List, [], ◌∷◌, length, get_or, drop, refl, sym, ap, add-one, arith, drop-cons}
use Rattle.std.specs.Prelude.{◌==◌, Option, None, Some}
use Rattle.std.proofs.lemmas.Bool.{eqb-true, false≢true}
use Rattle.std.proofs.lemmas.List.{drop_all}
use Rattle.std.proofs.lemmas.Option.{none-some}
use Rattle.std.specs.Option.{option_and_then, option_map_or}
use Rattle.judge_model.specs.FrameCode.{are_instructions_by, behind_instruction, behind_letter, encoding_behind, encoding_by}

-- Letters.

encoding_cons :
    (letter : ℕ) (letters bytes : List ℕ) (w : ℕ) →
    encoding_by (letter ∷ letters) bytes w
    ≡ option_and_then (λ v. option_and_then (λ rest. encoding_by letters rest v) (behind_letter letter bytes)) (encoding_behind letter bytes w)
unfolding encoding_by
encoding_cons letter letters bytes w = refl

-- by the letter at an index, and what is behind it
pub encoding_further :
    (letters bytes rest : List ℕ) (i w v : ℕ) → i < length letters → Some v ≡ encoding_behind (get_or letters i 0) bytes w →
    Some rest ≡ behind_letter (get_or letters i 0) bytes → encoding_by (drop i letters) bytes w ≡ encoding_by (drop (i + 1) letters) rest v
encoding_further letters bytes rest i w v low width data_ =
    ap (λ ls. encoding_by ls bytes w) (drop-cons letters i 0 low)
    ∙ encoding_cons (get_or letters i 0) (drop (suc i) letters) bytes w
    ∙ rw (← width, ← data_, add-one) refl

pub encoding_unknown :
    (letters bytes : List ℕ) (i w : ℕ) → i < length letters → None ≡ encoding_behind (get_or letters i 0) bytes w →
    encoding_by (drop i letters) bytes w ≡ None
encoding_unknown letters bytes i w low width =
    ap (λ ls. encoding_by ls bytes w) (drop-cons letters i 0 low)
    ∙ encoding_cons (get_or letters i 0) (drop (suc i) letters) bytes w
    ∙ rw (← width) refl

pub data_unknown :
    (letters bytes : List ℕ) (i w v : ℕ) → i < length letters → Some v ≡ encoding_behind (get_or letters i 0) bytes w →
    None ≡ behind_letter (get_or letters i 0) bytes → encoding_by (drop i letters) bytes w ≡ None
data_unknown letters bytes i w v low width data_ =
    ap (λ ls. encoding_by ls bytes w) (drop-cons letters i 0 low)
    ∙ encoding_cons (get_or letters i 0) (drop (suc i) letters) bytes w
    ∙ rw (← width, ← data_) refl

encoding_nil : (bytes : List ℕ) (w : ℕ) → encoding_by [] bytes w ≡ Some w
unfolding encoding_by
encoding_nil bytes w = refl

pub encoding_end :
    (letters bytes : List ℕ) (i w : ℕ) → length letters ≤ i → encoding_by (drop i letters) bytes w ≡ Some w
encoding_end letters bytes i w end = ap (λ ls. encoding_by ls bytes w) (drop_all i letters end) ∙ encoding_nil bytes w

-- Instructions, by what is left of the number of steps.

pub walk_out : (m : ℕ) (bytes : List ℕ) → m ≡ 0 → are_instructions_by m bytes ≡ false
unfolding are_instructions_by
walk_out m bytes none = ap (λ k. are_instructions_by k bytes) none

walk_nil : (n : ℕ) → are_instructions_by (suc n) [] ≡ true
unfolding are_instructions_by
walk_nil n = refl

pub walk_end : (n m : ℕ) (bytes : List ℕ) → m ≡ suc n → true ≡ (length bytes == 0) → are_instructions_by m bytes ≡ true
walk_end n m [] is none = ap (λ k. are_instructions_by k []) is ∙ walk_nil n
walk_end n m (b ∷ bytes) is none =
    let e = eqb-true (length (b ∷ bytes)) 0 (sym none) in absurd (omega (arith, e))

walk_cons :
    (n b : ℕ) (bytes : List ℕ) →
    are_instructions_by (suc n) (b ∷ bytes) ≡ option_map_or (λ rest. are_instructions_by n rest) (behind_instruction (b ∷ bytes)) false
unfolding are_instructions_by
walk_cons n b bytes = refl

walk_step :
    (n m b : ℕ) (bytes : List ℕ) (o : Option (List ℕ)) → m ≡ suc n → o ≡ behind_instruction (b ∷ bytes) →
    are_instructions_by m (b ∷ bytes) ≡ option_map_or (λ rest. are_instructions_by n rest) o false
walk_step n m b bytes o is step =
    ap (λ k. are_instructions_by k (b ∷ bytes)) is ∙ walk_cons n b bytes
    ∙ ap (λ p. option_map_or (λ rest. are_instructions_by n rest) p false) (sym step)

pub walk_further :
    (n m : ℕ) (bytes rest : List ℕ) → m ≡ suc n → Some rest ≡ behind_instruction bytes →
    are_instructions_by m bytes ≡ are_instructions_by n rest
walk_further n m [] rest is step = absurd (none-some rest (sym step))
walk_further n m (b ∷ bytes) rest is step = walk_step n m b bytes (Some rest) is step

pub walk_stops :
    (n m : ℕ) (bytes : List ℕ) → m ≡ suc n → false ≡ (length bytes == 0) → None ≡ behind_instruction bytes →
    are_instructions_by m bytes ≡ false
walk_stops n m [] is some step = absurd (false≢true some)
walk_stops n m (b ∷ bytes) is some step = walk_step n m b bytes None is step
