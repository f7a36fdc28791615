-- Numbers of sections by their digits, and the pieces of an output section by their ranks.
use Rattle.std.proofs.Common.{◌≡◌, ℕ, ◌+◌, ◌*◌, ◌-◌, ◌<◌, ◌≤◌, ◌&&◌, ◌||◌, Bool, true, false, cond, List, [], ◌∷◌, length, drop, take, get_or, refl, sym, ap, ◌∙◌, arith}
use Rattle.std.specs.Prelude.{All}
use Rattle.std.specs.Borrow.{Bor}
use Rattle.std.specs.Char.{is_ascii_digit}
use Rattle.std.specs.List.{list_all, list_any}
use Rattle.std.specs.List.Sorted.{IsNonDecreasingBy, IsStableByKey}
use Rattle.std.specs.Ordering.{nat_cmp}
use Rattle.std.specs.Str.{all_ascii_digits}
use Rattle.std.specs.Str.Parse.{digits_value}
use Rattle.std.proofs.lemmas.Str.Parse.{digits_value_short}
use Rattle.std.proofs.lemmas.Bool.{false≢true}
use Rattle.std.proofs.lemmas.List.Elements.{All-cons, All-nil}
use Rattle.elf_model.specs.Link.ArrayOrder.{array_rank, in_array_order, piece_rank}
use Rattle.elf_model.specs.Link.Pieces.{Piece}
use Rattle.elf_model.proofs.ArrayOrder.{by_stable_sort, map_by_rank, one_rank}
use Rattle.elf_model.proofs.DecimalDigits.{digit_step, own}
use Rattle.layout.specs.Arrays.{has_number}
use Rattle.placing.specs.Views.{borrowed_view, borrowed_views}
use Rattle.placing.specs.declared.piece.Piece as code

digits_all : (ds : List ℕ) → list_all is_ascii_digit ds ≡ all_ascii_digits ds
digits_all [] = refl
digits_all (d ∷ ds) = ap (λ b. is_ascii_digit d && b) (digits_all ds)

-- one more digit of few: the number is small with it
pub record IsSmallStep (ds : List ℕ) (i : ℕ) : Type 0 where
  pub low : 48 ≤ get_or ds i 0
  pub more : digits_value 10 (take (i + 1) ds) ≡ digits_value 10 (take i ds) * 10 + (get_or ds i 0 - 48)
  pub small : digits_value 10 (take (i + 1) ds) < 100000

pub small_step : (ds : List ℕ) (i : ℕ) → list_all is_ascii_digit ds ≡ true → length ds ≤ 5 → i < length ds → IsSmallStep ds i
small_step ds i digits few within =
    let all : all_ascii_digits ds ≡ true = sym (digits_all ds) ∙ digits in
    let s = digit_step ds i all within in
    let whole : digits_value 10 ds < 100000 = digits_value_short own ds 5 all few in
    let more = s.within in
    record {
      low = s.low;
      more = s.more;
      small = omega (arith, whole, more);
    }

-- without a number all pieces are of one rank
pub unnumbered : (ps : List Piece) → list_any has_number ps ≡ false → All (λ p. piece_rank p ≡ 100000) ps
unfolding array_rank
unnumbered [] none = All-nil (λ p. piece_rank p ≡ 100000)
unnumbered (p ∷ ps) none = by (has_number p) refl none (unnumbered ps)
  where
    by :
        (b : Bool) → has_number p ≡ b → (b || list_any has_number ps) ≡ false → (list_any has_number ps ≡ false → All (λ q. piece_rank q ≡ 100000) ps) →
        All (λ q. piece_rank q ≡ 100000) (p ∷ ps)
    by true e f rest = absurd (false≢true (sym f))
    by false e f rest = All-cons (λ q. piece_rank q ≡ 100000) p ps (ap (λ b. cond b (digits_value 10 (drop 12 p.name)) 100000) e) (rest f)

pub as_they_are : (ps : List Piece) → list_any has_number ps ≡ false → ps ≡ in_array_order ps
as_they_are ps none = sym (one_rank piece_rank 100000 ps (unnumbered ps none))

-- what a stable sort by the ranks of names gives
abbrev pub name_rank : Bor code.Piece → ℕ
name_rank p = array_rank p.now.name.now

pub sorted_is :
    (xs ys : List (Bor code.Piece)) → IsNonDecreasingBy name_rank ys → IsStableByKey name_rank nat_cmp xs ys → borrowed_views ys ≡ in_array_order (borrowed_views xs)
sorted_is xs ys up stable =
    ap borrowed_views (by_stable_sort name_rank xs ys up stable) ∙ map_by_rank piece_rank borrowed_view xs
