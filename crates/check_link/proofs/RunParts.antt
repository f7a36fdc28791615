-- Parts of runs, which are the same where each of their bytes is.
use Rattle.std.proofs.Common.{◌≡◌, ℕ, ◌⊎◌, inl, inr, Bool, ◌+◌, ◌-◌, ◌<◌, ◌≤◌, List, drop, length, sym, ap, ◌∙◌, arith}
use Rattle.std.specs.Prelude.{◌↔◌, ◌==◌, IsTrue, slice_index}
use Rattle.std.proofs.lemmas.Bool.{eq-eqb, eqb-true}
use Rattle.std.proofs.lemmas.List.{ext_get_or, get_or_past, get_or-drop, get_or-take, length-drop, length-take}
use Rattle.std.specs.Str.{bytes_eq}
use Rattle.std.proofs.lemmas.Slice.Eq.{bytes_eq-Decides}
use Rattle.elf_model.proofs.SameOutput.{both_ways_equal}
use Rattle.check_link.proofs.Padded.{below_or_not}
use Rattle.byteview.proofs.NumberLaws.{AreBytes, le_bytes-le}
use Rattle.byteview.specs.Numbers.{le, le_at, le_bytes, part}
use Rattle.check_link.specs.SameRuns.{AreSame}

pub in_part : (xs : List ℕ) (at n k : ℕ) → k < n → slice_index (part xs at n) k ≡ slice_index xs (at + k)
in_part xs at n k low = get_or-take n (drop at xs) k 0 low ∙ get_or-drop at xs k 0

pub part_long : (xs : List ℕ) (at n : ℕ) → at + n ≤ length xs → length (part xs at n) ≡ n
part_long xs at n inside =
    let l = length-take n (drop at xs) in
    let m = length-drop at xs in
    omega (arith, l, m, inside)

-- a part is a list of its length where each byte is
pub part_same :
    (xs ys : List ℕ) (at n : ℕ) → at + n ≤ length xs → length ys ≡ n → ((k : ℕ) → k < n → slice_index xs (at + k) ≡ slice_index ys k) → part xs at n ≡ ys
part_same xs ys at n inside long same =
    let l = part_long xs at n inside in
    ext_get_or 0 (part xs at n) ys (l ∙ sym long) (λ k low. let below : k < n = omega (arith, low, l) in in_part xs at n k below ∙ same k below)

pub part_holds :
    (xs ys : List ℕ) (at n : ℕ) → part xs at n ≡ ys → (k : ℕ) → k < n → slice_index xs (at + k) ≡ slice_index ys k
part_holds xs ys at n e k low = sym (in_part xs at n k low) ∙ ap (λ (l : List ℕ). slice_index l k) e

-- runs are the same between two places where their parts are
pub same_from_part : (xs ys : List ℕ) (at n : ℕ) → part xs at n ≡ part ys at n → AreSame xs ys at (at + n)
same_from_part xs ys at n e k low high =
    let is : at + (k - at) ≡ k = omega (arith, low) in
    let below : k - at < n = omega (arith, low, high) in
    ap (slice_index xs) (sym is)
    ∙ (part_holds xs (part ys at n) at n e (k - at) below ∙ (in_part ys at n (k - at) below ∙ ap (slice_index ys) is))

pub part_from_same :
    (xs ys : List ℕ) (at n : ℕ) → at + n ≤ length xs → at + n ≤ length ys → AreSame xs ys at (at + n) → part xs at n ≡ part ys at n
part_from_same xs ys at n la lb same =
    part_same xs (part ys at n) at n la (part_long ys at n lb)
    (λ k low. same (at + k) (omega arith) (omega (arith, low)) ∙ sym (in_part ys at n k low))

-- parts of bytes that are the same number are the same
pub same_number :
    (xs ys : List ℕ) (n : ℕ) → AreBytes xs → AreBytes ys → length xs ≡ n → length ys ≡ n → le xs ≡ le ys → xs ≡ ys
same_number xs ys n bx by lx ly e =
    sym (le_bytes-le xs bx) ∙ (ap (λ (m : ℕ). le_bytes m (le xs)) (lx ∙ sym ly) ∙ (ap (le_bytes (length ys)) e ∙ le_bytes-le ys by))

pub part_bytes : (xs : List ℕ) (at n : ℕ) → AreBytes xs → at + n ≤ length xs → AreBytes (part xs at n)
part_bytes xs at n are inside k = by (below_or_not k n)
  where
    by : (k < n) ⊎ (n ≤ k) → slice_index (part xs at n) k < 256
    by (inl low) = let e = in_part xs at n k low in let b = are (at + k) in omega (arith, e, b)
    by (inr past) = let l = part_long xs at n inside in let e = get_or_past (part xs at n) k 0 (omega (arith, past, l)) in omega (arith, e)

-- runs are the same in a word where it is the same number
pub by_word :
    (xs ys : List ℕ) (at n x y : ℕ) → AreBytes xs → AreBytes ys → at + n ≤ length xs → at + n ≤ length ys → x ≡ le_at n xs at →
    y ≡ le_at n ys at → IsTrue (x == y) ↔ AreSame xs ys at (at + n)
by_word xs ys at n x y bx by la lb is_x is_y = (
  λ e. same_from_part xs ys at n
      (same_number (part xs at n) (part ys at n) n (part_bytes xs at n bx la) (part_bytes ys at n by lb) (part_long xs at n la) (part_long ys at n lb)
      (sym is_x ∙ (eqb-true x y e ∙ is_y))),
  λ same. eq-eqb x y (is_x ∙ (ap le (part_from_same xs ys at n la lb same) ∙ sym is_y)),
)

-- runs of one length that are the same from end to end are one text
pub text_same :
    (xs ys : List ℕ) (b : Bool) → length xs ≡ length ys → (IsTrue b ↔ AreSame xs ys 0 (length xs)) → b ≡ bytes_eq xs ys
text_same xs ys b long tells =
    both_ways_equal b (bytes_eq xs ys)
    (λ e. (bytes_eq-Decides xs ys).1 (ext_get_or 0 xs ys long (λ k low. tells.0 e k (omega arith) low)))
    (λ e. tells.1 (λ k low high. ap (λ (l : List ℕ). slice_index l k) ((bytes_eq-Decides xs ys).0 e)))
