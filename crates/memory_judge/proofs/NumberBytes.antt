-- Numbers, the bytes that spell them, and the values that these tell.
use Rattle.std.proofs.Common.{◌≡◌, ℕ, zero, suc, ◌+◌, ◌-◌, ◌*◌, ◌/◌, ◌%◌, ◌^◌, ◌<◌, ◌≤◌, ◌⊎◌, inl, inr, false, List, [], ◌∷◌, length, refl, ap, sym, subst, ◌∙◌, arith}
use Rattle.std.specs.Prelude.{None, Some, option_map, slice_index, slice_set}
use Rattle.std.proofs.lemmas.Bool.Decides.{nat_tests}
use Rattle.std.proofs.lemmas.List.{get_or-set_other, get_or-set_same, get_or-take}
use Rattle.std.proofs.lemmas.List.Elements.{All-weaker}
use Rattle.std.proofs.lemmas.Option.{same_Some}
use Rattle.byteview.proofs.NumberLaws.{AreBytes, le-le_bytes, length-le_bytes, take-le_bytes}
use Rattle.byteview.specs.Numbers.{le, le_bytes}
use Rattle.elf_model.proofs.Finding.{find-none}
use Rattle.elf_model.specs.Image.MemoryImage.{Cell, cell_of, loads, maps}
use Rattle.elf_model.specs.Image.RightLink.{byte_at}
use Rattle.elf_model.specs.declared.records.ProgramHeader.{ProgramHeader}
use Rattle.judge_model.specs.Headers.{IsLoad, IsProgram}
use Rattle.judge_model.specs.Memory.{Holds}
use Rattle.memory_judge.proofs.Padded.{below_or_not}
use Rattle.memory_judge.specs.Numbers.{IsShown, IsWord}

-- the spelling of what bytes are read as has these bytes
pub spelled : (w : ℕ) (bs : List ℕ) (k : ℕ) → AreBytes bs → k < w → slice_index (le_bytes w (le bs)) k ≡ slice_index bs k
unfolding le le_bytes
spelled zero bs k are low = absurd (omega (arith, low))
spelled (suc w) [] zero are low = refl
spelled (suc w) [] (suc k) are low = spelled w [] k are (omega (arith, low))
spelled (suc w) (b ∷ bs) zero are low = let first : b < 256 = are 0 in omega (arith, first)
spelled (suc w) (b ∷ bs) (suc k) are low =
    let first : b < 256 = are 0 in
    let high : (b + 256 * le bs) / 256 ≡ le bs = omega (arith, first) in
    rw high (spelled w bs k (λ j. are (suc j)) (omega (arith, low)))

all_zero : (bs : List ℕ) → ((k : ℕ) → slice_index bs k ≡ 0) → le bs ≡ 0
unfolding le
all_zero [] zeros = refl
all_zero (b ∷ bs) zeros =
    let first : b ≡ 0 = zeros 0 in
    let rest = all_zero bs (λ k. zeros (suc k)) in
    omega (arith, first, rest)

-- bytes that begin as a spelling, and are zeros behind it, are read as what it spells
pub read_as :
    (w v : ℕ) (bs : List ℕ) → ((k : ℕ) → k < w → slice_index bs k ≡ slice_index (le_bytes w v) k) →
    ((k : ℕ) → w ≤ k → slice_index bs k ≡ 0) → le bs ≡ le (le_bytes w v)
unfolding le le_bytes
read_as zero v bs same zeros = all_zero bs (λ k. zeros k (omega arith))
read_as (suc w) v [] same zeros =
    let first : 0 ≡ v % 256 = same 0 (omega arith) in
    let rest = read_as w (v / 256) [] (λ k low. same (suc k) (omega (arith, low))) (λ k high. refl) in
    omega (arith, first, rest)
read_as (suc w) v (b ∷ bs) same zeros =
    let first : b ≡ v % 256 = same 0 (omega arith) in
    let rest = read_as w (v / 256) bs (λ k low. same (suc k) (omega (arith, low))) (λ k high. zeros (suc k) (omega (arith, high))) in
    omega (arith, first, rest)

-- a program has nothing where 64 bits don't reach
pub nothing_high : (image : List ℕ) (a : ℕ) → IsProgram image → 2 ^ 64 ≤ a → byte_at image a ≡ None
nothing_high image a is high =
    ap (λ o. option_map (λ (c : Cell). c.byte) (option_map (cell_of image a) o))
    (find-none (λ (h : ProgramHeader). maps h a) (loads image)
    (All-weaker (IsLoad (length image)) (λ h. maps h a ≡ false) (λ h load. let low = load.low in grind (arith, nat_tests)) (loads image) is.loads_are.each))

-- the number in four bytes, and in eight
pub four : (v : ℕ) → le (le_bytes 4 v) ≡ v % 2 ^ 32
unfolding le le_bytes
four v = omega arith

pub eight : (v : ℕ) → v < 2 ^ 64 → le (le_bytes 8 v) ≡ v
eight v low = le-le_bytes 8 v low

-- four bytes tell a signed number of these whole
pub extended_high : (n v : ℕ) → IsWord v → n ≡ le (le_bytes 4 v) → 2 ^ 31 ≤ n → (n + 0xffffffff00000000) % 2 ^ 64 ≡ v
extended_high n v word is high = by word.signed
  where
    by : (v < 2 ^ 31) ⊎ (2 ^ 64 - 2 ^ 31 ≤ v) → (n + 0xffffffff00000000) % 2 ^ 64 ≡ v
    by (inl low) = let f = four v in absurd (omega (arith, is, f, low, high))
    by (inr far) = let f = four v in let top = word.low in omega (arith, is, f, far, top)

pub extended_low : (n v : ℕ) → IsWord v → n ≡ le (le_bytes 4 v) → n < 2 ^ 31 → n ≡ v
extended_low n v word is low = by word.signed
  where
    by : (v < 2 ^ 31) ⊎ (2 ^ 64 - 2 ^ 31 ≤ v) → n ≡ v
    by (inl small) = let f = four v in omega (arith, is, f, small)
    by (inr far) = let f = four v in let top = word.low in absurd (omega (arith, is, f, far, top, low))

pub shown_four : (w n v r : ℕ) → w ≡ 4 → IsShown w v → n ≡ le (le_bytes w v) → ((u : ℕ) → IsWord u → n ≡ le (le_bytes 4 u) → r ≡ u) → r ≡ v
shown_four w n v r four_is (inl (same, word)) is told = told v word (is ∙ ap (λ (k : ℕ). le (le_bytes k v)) same)
shown_four w n v r four_is (inr (same, low)) is told = absurd (omega (arith, four_is, same))

pub shown_eight : (w n v : ℕ) → (w ≡ 4 → ⊥) → IsShown w v → n ≡ le (le_bytes w v) → n ≡ v
shown_eight w n v other (inl (same, word)) is = absurd (other same)
shown_eight w n v other (inr (same, low)) is = is ∙ (ap (λ (k : ℕ). le (le_bytes k v)) same ∙ eight v low)

-- memory holds the number that its bytes are read as, and no other one
pub held_of :
    (image : List ℕ) (at w n : ℕ) (bs : List ℕ) → n ≡ le bs → AreBytes bs →
    ((j : ℕ) → j < w → byte_at image (at + j) ≡ Some (slice_index bs j)) → Holds image at (le_bytes w n)
held_of image at w n bs is are read j low =
    let long = length-le_bytes w n in
    let below : j < w = omega (arith, low, long) in
    read j below ∙ ap Some (sym (spelled w bs j are below) ∙ ap (λ (m : ℕ). slice_index (le_bytes w m) j) (sym is))

pub only_of :
    (image : List ℕ) (at w n v : ℕ) (bs : List ℕ) → n ≡ le bs →
    ((j : ℕ) → j < w → byte_at image (at + j) ≡ Some (slice_index bs j)) → ((j : ℕ) → w ≤ j → slice_index bs j ≡ 0) →
    Holds image at (le_bytes w v) → n ≡ le (le_bytes w v)
only_of image at w n v bs is read rest holds =
    let long = length-le_bytes w v in
    is ∙ read_as w v bs (λ k low. same_Some (slice_index bs k) (slice_index (le_bytes w v) k) (sym (read k low) ∙ holds k (omega (arith, low, long)))) rest

-- the lowest bytes of a number
pub lowest : (bs : List ℕ) (w x k : ℕ) → bs ≡ le_bytes 8 x → w ≤ 8 → k < w → slice_index (le_bytes w x) k ≡ slice_index bs k
lowest bs w x k is narrow low =
    ap (λ (ys : List ℕ). slice_index ys k) (sym (take-le_bytes w 8 x narrow))
    ∙ (get_or-take w (le_bytes 8 x) k 0 low ∙ ap (λ (ys : List ℕ). slice_index ys k) (sym is))

-- one byte more is read
pub read_more :
    (image : List ℕ) (at k b : ℕ) (bs : List ℕ) → k < length bs → byte_at image (at + k) ≡ Some b →
    ((j : ℕ) → j < k → byte_at image (at + j) ≡ Some (slice_index bs j)) →
    (j : ℕ) → j < k + 1 → byte_at image (at + j) ≡ Some (slice_index (slice_set bs k b) j)
read_more image at k b bs long here before j low = by (below_or_not j k)
  where
    by : (j < k) ⊎ (k ≤ j) → byte_at image (at + j) ≡ Some (slice_index (slice_set bs k b) j)
    by (inl less) = before j less ∙ ap Some (sym (get_or-set_other bs k j b 0 (λ e. omega (arith, e, less))))
    by (inr same) =
        let e : k ≡ j = omega (arith, low, same) in
        subst (λ (i : ℕ). byte_at image (at + i) ≡ Some (slice_index (slice_set bs k b) i)) e
        (here ∙ ap Some (sym (get_or-set_same bs k b 0 long)))

pub rest_less :
    (k b : ℕ) (bs : List ℕ) → ((j : ℕ) → k ≤ j → slice_index bs j ≡ 0) → (j : ℕ) → k + 1 ≤ j → slice_index (slice_set bs k b) j ≡ 0
rest_less k b bs rest j high = get_or-set_other bs k j b 0 (λ e. omega (arith, e, high)) ∙ rest j (omega (arith, high))
